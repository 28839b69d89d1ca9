-- Going down a list one bound at a time answers what `judge_of` says of the whole list: what holds at the start, at a turn
-- and at the end. Assumes nothing.
use mathlib.Core.Path.{◌≡◌, refl, sym, ◌∙◌}
use mathlib.Core.Bool.{Bool, true, false, not, true≢false}
use mathlib.Core.List.{List, [], ◌∷◌}
use Prim.Native.Nat.{ℕ, suc, ◌+◌, ◌≤◌, ◌<◌}
use native.Mathlib.Numerals.{add-one}
use lib.Dec.{eqb}
use lib.IntN.{pos}
use lib.ListN.{length, drop, get_or, drop_of_length-le}
use lib.Seq.{drop-cons}
use Rattle.std.specs.Prelude.{if◌then◌else◌}
use Rattle.plan.specs.APlan.{points, records_of}
use Rattle.plan.specs.declared.Plan.{Plan}
use Rattle.bounds.specs.declared.Bound.{Bound}
use Rattle.verdict.specs.Verdicts.{ended_of}
use Rattle.board.specs.declared.Board.{Board}
use Rattle.lent.specs.Judgement.{named_in, kept_on, first_not, listed, judge_of}
use Rattle.lent.specs.Inside.{begun_of, is_refused, judged_after, gone_through}
use Rattle.lent.specs.declared.Judged.{Judged}
use Rattle.lent.specs.declared.Judged.TheVariants.{Refused, Kept, Broken}
use Rattle.lent.specs.declared.Judging.{Judging}

-- what stands past the end of a list
abbrev pub none : Bound
none = record { from = 0; to = 0; bound = pos 0 }

-- a refusal stays
refused : (s : Judging) (k j i : ℕ) (xs : List Bound) → s.answer ≡ Refused k j → gone_through s i xs ≡ Refused k j
unfolding gone_through
refused s k j i [] e = e
refused s k j i (x ∷ xs) e = refused (judged_after s i x) k j (suc i) xs (rw e refl)

module _ (n : ℕ) (b : Board) where
  abbrev at : Judged → Judging
  at a = record { answer = a; points = n; board = b }

  -- after a broken bound only a point that is not in the plan counts
  broken : (j i : ℕ) (xs : List Bound) → gone_through (at (Broken j)) i xs ≡ first_not (named_in n) (Refused 8) (Broken j) i xs
  unfolding gone_through first_not
  broken j i [] = refl
  broken j i (x ∷ xs) = go (named_in n x) (broken j (suc i) xs)
    where
      go : (t : Bool) → gone_through (at (Broken j)) (suc i) xs ≡ first_not (named_in n) (Refused 8) (Broken j) (suc i) xs
          → gone_through (at (if t then Broken j else Refused 8 i)) (suc i) xs ≡ (if t then first_not (named_in n) (Refused 8) (Broken j) (suc i) xs else Refused 8 i)
      go true next = next
      go false next = refused (at (Refused 8 i)) 8 i (suc i) xs refl

  kept : (i : ℕ) (xs : List Bound) → gone_through (at Kept) i xs ≡ first_not (named_in n) (Refused 8) (first_not (kept_on b) Broken Kept i xs) i xs
  unfolding gone_through first_not
  kept i [] = refl
  kept i (x ∷ xs) = go (named_in n x) (kept_on b x) (kept (suc i) xs)
    where
      go : (t u : Bool) → gone_through (at Kept) (suc i) xs ≡ first_not (named_in n) (Refused 8) (first_not (kept_on b) Broken Kept (suc i) xs) (suc i) xs
          → gone_through (at (if not t then Refused 8 i else (if u then Kept else Broken i))) (suc i) xs
          ≡ (if t then first_not (named_in n) (Refused 8) (if u then first_not (kept_on b) Broken Kept (suc i) xs else Broken i) (suc i) xs else Refused 8 i)
      go false u next = refused (at (Refused 8 i)) 8 i (suc i) xs refl
      go true true next = next
      go true false next = broken i (suc i) xs

pub starts : (p : Plan) (b : Board) (ys : List Bound) → gone_through (begun_of p b) 0 ys ≡ judge_of p b ys
unfolding judge_of
starts p b ys = go (not (eqb (ended_of p b).number 0)) (ended_of p b).number (ended_of p b).place
  where
    go : (t : Bool) (k j : ℕ) → gone_through (at (points (records_of p)) b (if t then Refused k j else Kept)) 0 ys ≡ (if t then Refused k j else listed (points (records_of p)) b ys)
    go true k j = refused (at (points (records_of p)) b (Refused k j)) k j 0 ys refl
    go false k j = kept (points (records_of p)) b 0 ys

module _ (s : Judging) (i : ℕ) (ys : List Bound) where
  pub passed : (none : Bound) → i < length ys → gone_through s i (drop i ys) ≡ gone_through (judged_after s i (get_or ys i none)) (i + 1) (drop (i + 1) ys)
  unfolding gone_through
  passed none h = rw (drop-cons ys i none h, add-one i)

  pub over : length ys ≤ i → s.answer ≡ gone_through s i (drop i ys)
  unfolding gone_through
  over h = rw (drop_of_length-le ys h)

  pub stopped : is_refused s.answer ≡ true → s.answer ≡ gone_through s i (drop i ys)
  stopped = go s.answer refl
    where
      go : (a : Judged) → s.answer ≡ a → is_refused a ≡ true → s.answer ≡ gone_through s i (drop i ys)
      go (Refused k j) is h = is ∙ sym (refused s k j i (drop i ys) is)
      go Kept is h = absurd (true≢false (sym h))
      go (Broken j) is h = absurd (true≢false (sym h))
