-- What the verdict over a lent list answers: 8 before anything broken, then the first broken bound, then kept; and that on
-- the plan's own ordinary records it agrees with the plan's verdict. Each assumes that nothing is refused before the list
-- (`(ended_of p b).number ≡ 0`): then the plan is accepted and the board sound and finished.
use mathlib.Core.Path.{◌≡◌, refl, sym, ◌∙◌, ap}
use mathlib.Core.Bool.{Bool, true, false, true≢false}
use mathlib.Core.List.{List, [], ◌∷◌}
use Prim.Native.Nat.{ℕ, zero, suc, ◌+◌, ◌<◌}
use native.Mathlib.Omega.{arith}
use native.Mathlib.Decide.{dec_lt}
use lib.Dec.{eqb}
use lib.ListN.{length, get_or, take}
use borrow.Author.Tests.{eqb-true, ne_eqb, lt-ltb}
use Rattle.std.specs.Prelude.{if◌then◌else◌}
use Rattle.plan.specs.APlan.{ordinary, wait, is, blank, points, how_many, one, link_to, records_of}
use Rattle.plan.specs.declared.Plan.{Plan}
use Rattle.records.specs.declared.Record.{Record}
use Rattle.plan.proofs.Accepted.{Accepted, accepted_plan}
use Rattle.bounds.specs.declared.Bound.{Bound}
use Rattle.verdict.specs.Verdicts.{ordinary_kept, wait_kept, kept, first_broken, ended_of, verdict_of}
use Rattle.board.specs.declared.Board.{Board}
use Rattle.verdict.specs.declared.Verdict.{Verdict}
use Rattle.verdict.specs.declared.Verdict.TheVariants as verdict
use Rattle.verdict.proofs.Broken.{ended_accepted}
use Rattle.lent.specs.Judgement.{named_in, kept_on, first_not, judge_of, number_in, place_in, ordinaries}
use Rattle.lent.specs.declared.Judged.{Judged}
use Rattle.lent.specs.declared.Judged.TheVariants.{Refused, Kept, Broken}
use Rattle.lent.proofs.Going.{none}

-- every bound of the list is so
pub record All (so : Bound → Bool) (xs : List Bound) : Type 0 where
  pub all : (k : ℕ) → k < length xs → so (get_or xs k none) ≡ true

-- j is the place of the first bound that is not so
pub record First (so : Bound → Bool) (xs : List Bound) (j : ℕ) : Type 0 where
  pub there : j < length xs
  pub not_so : so (get_or xs j none) ≡ false
  pub before : (k : ℕ) → k < j → so (get_or xs k none) ≡ true

module _ (so : Bound → Bool) (bad : ℕ → Judged) (next : Judged) where
  all_so : (i : ℕ) (xs : List Bound) → All so xs → first_not so bad next i xs ≡ next
  unfolding first_not
  all_so i [] h = refl
  all_so i (x ∷ xs) h = rw (h.all 0 (omega arith)) (all_so (suc i) xs (record { all = λ k l. h.all (suc k) (omega (arith, l)) }))

  first_so : (i : ℕ) (xs : List Bound) (j : ℕ) → First so xs j → first_not so bad next i xs ≡ bad (i + j)
  unfolding first_not
  first_so i [] j f = absurd (omega (arith, f.there))
  first_so i (x ∷ xs) zero f = rw f.not_so (ap bad (omega arith))
  first_so i (x ∷ xs) (suc j) f =
      rw (f.before 0 (omega arith))
      (first_so (suc i) xs j (record { there = omega (arith, f.there); not_so = f.not_so; before = λ k l. f.before (suc k) (omega (arith, l)) }) ∙ ap bad (omega arith))

-- one that is not so, wherever it is, is answered
some_not : (so : Bound → Bool) (n : ℕ) (next : Judged) (i : ℕ) (xs : List Bound) (j : ℕ) → j < length xs → so (get_or xs j none) ≡ false → number_in (first_not so (Refused n) next i xs) ≡ n
unfolding first_not
some_not so n next i [] j l e = absurd (omega (arith, l))
some_not so n next i (x ∷ xs) zero l e = rw e refl
some_not so n next i (x ∷ xs) (suc j) l e = go (so x) (some_not so n next (suc i) xs j (omega (arith, l)) e)
  where
    go : (t : Bool) → number_in (first_not so (Refused n) next (suc i) xs) ≡ n → number_in (if t then first_not so (Refused n) next (suc i) xs else Refused n i) ≡ n
    go true h = h
    go false h = refl

module _ (p : Plan) (b : Board) (ok : (ended_of p b).number ≡ 0) where
  -- a listed bound names only points of the plan
  abbrev pub named : Bound → Bool
  named = named_in (points (records_of p))

  module _ (xs : List Bound) where
    -- A bound anywhere that names a point not in the plan: the answer is 8, whatever is broken anywhere.
    pub eight_anywhere : (j : ℕ) → j < length xs → named (get_or xs j none) ≡ false → number_in (judge_of p b xs) ≡ 8
    unfolding judge_of
    eight_anywhere j l e = rw ok (some_not named 8 _ 0 xs j l e)

    -- The first such bound is the one that is named.
    pub eight_first : (j : ℕ) → First named xs j → judge_of p b xs ≡ Refused 8 j
    unfolding judge_of
    eight_first j f = let z : 0 + j ≡ j = omega arith in rw ok (first_so named (Refused 8) _ 0 xs j f ∙ ap (Refused 8) z)

    -- Without such a bound, the first broken one is named.
    pub broken_first : All named xs → (j : ℕ) → First (kept_on b) xs j → judge_of p b xs ≡ Broken j
    unfolding judge_of
    broken_first a j f = let z : 0 + j ≡ j = omega arith in rw ok (all_so named (Refused 8) _ 0 xs a ∙ first_so (kept_on b) Broken Kept 0 xs j f ∙ ap Broken z)

    pub kept_all : All named xs → All (kept_on b) xs → judge_of p b xs ≡ Kept
    unfolding judge_of
    kept_all a k = rw ok (all_so named (Refused 8) _ 0 xs a ∙ all_so (kept_on b) Broken Kept 0 xs k)

    -- The same in this paper's numbers: 8 and the first such bound's place; else 0 and that of the first broken one; else 0.
    pub eight_numbered : (j : ℕ) → First named xs j → (number_in (judge_of p b xs) ≡ 8) × (place_in (judge_of p b xs) ≡ j)
    eight_numbered j f = let e = eight_first j f in (ap number_in e, ap place_in e)

    pub broken_numbered : All named xs → (j : ℕ) → First (kept_on b) xs j → (number_in (judge_of p b xs) ≡ 0) × (place_in (judge_of p b xs) ≡ j)
    broken_numbered a j f = let e = broken_first a j f in (ap number_in e, ap place_in e)

    pub kept_numbered : All named xs → All (kept_on b) xs → (number_in (judge_of p b xs) ≡ 0) × (place_in (judge_of p b xs) ≡ 0)
    kept_numbered a k = let e = kept_all a k in (ap number_in e, ap place_in e)

-- What is refused before the list keeps its number and its record.
pub refused_numbered : (p : Plan) (b : Board) (xs : List Bound) → eqb (ended_of p b).number 0 ≡ false
    → (number_in (judge_of p b xs) ≡ (ended_of p b).number) × (place_in (judge_of p b xs) ≡ (ended_of p b).place)
unfolding judge_of
refused_numbered p b xs n = (rw n, rw n)

-- ---- the plan's own ordinary records

-- The verdict v on some records, the first of them at the place i, and the answer a on their ordinary ones, the first of
-- those at the place j, agree: both are kept, or the same record is broken, with so many ordinary ones before it, or what
-- is broken is a wait, which is in no list of bounds.
pub data Agree (xs : List Record) (i j : ℕ) : Verdict → Judged → Type 0 where
  both_kept : Agree xs i j verdict.Kept Kept
  both_broken : (m k l : ℕ) → k ≡ i + m → l ≡ j + how_many (is ordinary) (take m xs) → Agree xs i j (verdict.Broken k) (Broken l)
  wait_broken : (m k : ℕ) (a : Judged) → k ≡ i + m → is wait (get_or xs m blank) ≡ true → Agree xs i j (verdict.Broken k) a

later : (x : Record) (xs : List Record) (i j j' : ℕ) → j' ≡ j + one (is ordinary x) → {v : Verdict} {a : Judged} → Agree xs (suc i) j' v a → Agree (x ∷ xs) i j v a
unfolding how_many
later x xs i j j' h both_kept = both_kept
later x xs i j j' h (both_broken m k l e f) = both_broken (suc m) k l (omega (arith, e)) (omega (arith, f, h))
later x xs i j j' h (wait_broken m k a e w) = wait_broken (suc m) k a (omega (arith, e)) w

module _ (rs : List Record) (b : Board) where
  agree : (i j : ℕ) (xs : List Record) → Agree xs i j (first_broken rs b i xs) (first_not (kept_on b) Broken Kept j (ordinaries xs))
  unfolding first_broken first_not ordinaries how_many
  agree i j [] = both_kept
  agree i j (x ∷ xs) = go (is ordinary x) refl (kept_on b this) refl (is wait x) refl (wait_kept b (link_to rs x.b) x) (agree (suc i) (suc j) xs) (agree (suc i) j xs)
    where
      this : Bound
      this = record { from = x.a; to = x.b; bound = x.first }

      go : (o : Bool) → is ordinary x ≡ o → (u : Bool) → kept_on b this ≡ u → (w : Bool) → is wait x ≡ w → (t : Bool)
          → Agree xs (suc i) (suc j) (first_broken rs b (suc i) xs) (first_not (kept_on b) Broken Kept (suc j) (ordinaries xs)) → Agree xs (suc i) j (first_broken rs b (suc i) xs) (first_not (kept_on b) Broken Kept j (ordinaries xs))
          → Agree (x ∷ xs) i j (if (if o then u else (if w then t else true)) then first_broken rs b (suc i) xs else verdict.Broken i) (first_not (kept_on b) Broken Kept j (if◌then◌else◌ {A = List Bound} o (this ∷ ordinaries xs) (ordinaries xs)))
      go true eo true eu w ew t counted passed = rw eu (later x xs i j (suc j) (rw eo (omega arith)) counted)
      go true eo false eu w ew t counted passed = rw eu (both_broken 0 i j (omega arith) (omega arith))
      go false eo u eu true ew true counted passed = later x xs i j j (rw eo (omega arith)) passed
      go false eo u eu true ew false counted passed = wait_broken 0 i _ (omega arith) ew
      go false eo u eu false ew t counted passed = later x xs i j j (rw eo (omega arith)) passed

-- the bounds of some records' ordinary ones are so where those records are
ordinaries_so : (so : Bound → Bool) (xs : List Record) → ((k : ℕ) → k < length xs → is ordinary (get_or xs k blank) ≡ true → so (record { from = (get_or xs k blank).a; to = (get_or xs k blank).b; bound = (get_or xs k blank).first }) ≡ true)
    → All so (ordinaries xs)
unfolding ordinaries
ordinaries_so so [] h = record { all = λ k l. absurd (omega (arith, l)) }
ordinaries_so so (x ∷ xs) h = go (is ordinary x) refl (ordinaries_so so xs (λ k l. h (suc k) (omega (arith, l))))
  where
    this : Bound
    this = record { from = x.a; to = x.b; bound = x.first }

    more : so this ≡ true → All so (ordinaries xs) → (k : ℕ) → k < length (this ∷ ordinaries xs) → so (get_or (this ∷ ordinaries xs) k none) ≡ true
    more e a zero l = e
    more e a (suc k) l = a.all k (omega (arith, l))

    go : (o : Bool) → is ordinary x ≡ o → All so (ordinaries xs) → All so (if◌then◌else◌ {A = List Bound} o (this ∷ ordinaries xs) (ordinaries xs))
    go true e a = record { all = more (h 0 (omega arith) e) a }
    go false e a = a

so_ordinaries : (so : Bound → Bool) (xs : List Record) → All so (ordinaries xs) → (k : ℕ) → k < length xs → is ordinary (get_or xs k blank) ≡ true
    → so (record { from = (get_or xs k blank).a; to = (get_or xs k blank).b; bound = (get_or xs k blank).first }) ≡ true
unfolding ordinaries
so_ordinaries so [] a k l o = absurd (omega (arith, l))
so_ordinaries so (x ∷ xs) a zero l o = (rw o at a).all 0 (omega arith)
so_ordinaries so (x ∷ xs) a (suc k) l o = so_ordinaries so xs (rest (is ordinary x) a) k (omega (arith, l)) o
  where
    rest : (t : Bool) → All so (if◌then◌else◌ {A = List Bound} t (record { from = x.a; to = x.b; bound = x.first } ∷ ordinaries xs) (ordinaries xs)) → All so (ordinaries xs)
    rest true a = record { all = λ k l. a.all (suc k) (omega (arith, l)) }
    rest false a = a

abbrev is_kept : Judged → Bool
is_kept (Refused k j) = false
is_kept Kept = true
is_kept (Broken j) = false

kept_means : (b : Board) (i : ℕ) (xs : List Bound) → first_not (kept_on b) Broken Kept i xs ≡ Kept → All (kept_on b) xs
unfolding first_not
kept_means b i [] e = record { all = λ k l. absurd (omega (arith, l)) }
kept_means b i (x ∷ xs) e = go (kept_on b x) refl (kept_means b (suc i) xs) e
  where
    more : kept_on b x ≡ true → All (kept_on b) xs → (k : ℕ) → k < length (x ∷ xs) → kept_on b (get_or (x ∷ xs) k none) ≡ true
    more f a zero l = f
    more f a (suc k) l = a.all k (omega (arith, l))

    go : (t : Bool) → kept_on b x ≡ t → (first_not (kept_on b) Broken Kept (suc i) xs ≡ Kept → All (kept_on b) xs) → (if t then first_not (kept_on b) Broken Kept (suc i) xs else Broken i) ≡ Kept → All (kept_on b) (x ∷ xs)
    go true f next e = record { all = more f (next e) }
    go false f next e = absurd (true≢false (ap is_kept (sym e)))

-- the place of a broken record
abbrev broken_at : Verdict → ℕ
broken_at (verdict.Refused n i) = 0
broken_at verdict.Kept = 0
broken_at (verdict.Broken k) = suc k

-- Every record before the first broken one is kept.
kept_before : (rs : List Record) (b : Board) (k i : ℕ) (xs : List Record) → first_broken rs b i xs ≡ verdict.Broken k → (j : ℕ) → j < length xs → i + j < k → kept rs b (get_or xs j blank) ≡ true
unfolding first_broken
kept_before rs b k i [] e j l h = absurd (omega (arith, l))
kept_before rs b k i (x ∷ xs) e j l h = go j l h (kept rs b x) refl e (λ f. kept_before rs b k (suc i) xs f)
  where
    go : (j : ℕ) → j < length (x ∷ xs) → i + j < k → (t : Bool) → kept rs b x ≡ t → (if t then first_broken rs b (suc i) xs else verdict.Broken i) ≡ verdict.Broken k
        → (first_broken rs b (suc i) xs ≡ verdict.Broken k → (m : ℕ) → m < length xs → suc i + m < k → kept rs b (get_or xs m blank) ≡ true) → kept rs b (get_or (x ∷ xs) j blank) ≡ true
    go zero l h true f e on = f
    go (suc j) l h true f e on = on e j (omega (arith, l)) (omega (arith, h))
    go j l h false f e on = absurd (omega (arith, h, ap broken_at e))

module _ (p : Plan) (b : Board) (ok : (ended_of p b).number ≡ 0) where
  known : Accepted (records_of p)
  known = accepted_plan p (ended_accepted p b ok)

  own_named : All (named p b ok) (ordinaries (records_of p))
  own_named = ordinaries_so (named p b ok) (records_of p) (λ k l o.
      let r = get_or (records_of p) k blank in
      let q = (known.each k l).names (ne_eqb r.kind 1 (λ e. omega (arith, e, eqb-true r.kind 3 o))) in
      rw (lt-ltb r.a (points (records_of p)) q.0, lt-ltb r.b (points (records_of p)) q.1) refl)

  own_answer : judge_of p b (ordinaries (records_of p)) ≡ first_not (kept_on b) Broken Kept 0 (ordinaries (records_of p))
  unfolding judge_of
  own_answer = rw ok (all_so (named p b ok) (Refused 8) _ 0 (ordinaries (records_of p)) own_named)

  -- On the plan's own ordinary records the list's verdict and the plan's agree.
  pub own_agrees : Agree (records_of p) 0 0 (verdict_of p b) (judge_of p b (ordinaries (records_of p)))
  unfolding verdict_of
  own_agrees = rw (own_answer, ok) (agree (records_of p) b 0 0 (records_of p))

  -- The list's verdict is kept exactly where every ordinary record is.
  abbrev pub EveryKept : Type 0
  EveryKept = (k : ℕ) → k < length (records_of p) → is ordinary (get_or (records_of p) k blank) ≡ true → ordinary_kept b (get_or (records_of p) k blank) ≡ true

  pub own_kept : EveryKept → judge_of p b (ordinaries (records_of p)) ≡ Kept
  own_kept h = kept_all p b ok (ordinaries (records_of p)) own_named (ordinaries_so (kept_on b) (records_of p) h)

  -- Where the plan's verdict names a wait, the list's is kept: every ordinary record comes before every wait.
  pub own_wait : (k : ℕ) → verdict_of p b ≡ verdict.Broken k → k < length (records_of p) → is wait (get_or (records_of p) k blank) ≡ true
      → judge_of p b (ordinaries (records_of p)) ≡ Kept
  unfolding verdict_of
  own_wait k e h w = own_kept (λ j l o. go j l o (dec_lt j k))
    where
      broken : first_broken (records_of p) b 0 (records_of p) ≡ verdict.Broken k
      broken = rw ok at e

      go : (j : ℕ) → j < length (records_of p) → is ordinary (get_or (records_of p) j blank) ≡ true → Dec (j < k) → ordinary_kept b (get_or (records_of p) j blank) ≡ true
      go j l o (yes before) = rw o at (kept_before (records_of p) b k 0 (records_of p) broken j l (omega (arith, before)))
      go j l o (no after) =
          absurd (omega (arith, known.sorted k j (omega (arith, after)) l, eqb-true (get_or (records_of p) k blank).kind 4 w, eqb-true (get_or (records_of p) j blank).kind 3 o))

  pub kept_own : judge_of p b (ordinaries (records_of p)) ≡ Kept → EveryKept
  kept_own e = so_ordinaries (kept_on b) (records_of p) (kept_means b 0 (ordinaries (records_of p)) (sym own_answer ∙ e))
