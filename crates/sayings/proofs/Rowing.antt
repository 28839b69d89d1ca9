-- What the code of a line's row answers, step by step. Assumes nothing.
use mathlib.Core.Path.{◌≡◌, refl, sym, ap, ◌∙◌}
use mathlib.Core.Bool.{Bool, true, false}
use mathlib.Core.List.{List}
use Prim.Native.Nat.{ℕ, ◌+◌, ◌≤◌, ◌<◌}
use native.Mathlib.Omega.{arith}
use lib.Dec.{eqb}
use lib.ListN.{length, take, drop, get_or, length-drop, length-map, drop_of_length-le}
use lib.Seq.{take_all}
use borrow.Author.Tests.{eq-eqb, ne_eqb}
use Rattle.std.proofs.lemmas.List.{drop_more}
use Rattle.std.specs.Prelude.{Result, Ok, Err, map, if◌then◌else◌}
use Rattle.std.specs.Result.{IsErrAnd}
use Rattle.phrases.specs.Inside.{kind_number}
use Rattle.phrases.specs.declared.Kind.{Kind}
use Rattle.phrases.specs.declared.Kind.TheVariants.{Point, Link, Ordinary, Wait, Mark, Event}
use Rattle.phrases.specs.declared.Word.{Word}
use Rattle.sayings.specs.Sayings.{expected, first_of}
use Rattle.sayings.specs.Inside.{number_of, zeros, cell, holds_in, wrong_in, first_wrong, unless_wrong, said_in, kind_row}
use Rattle.sayings.specs.declared.Expected.{Expected}
use Rattle.sayings.specs.declared.Expected.TheVariants as expects
use Rattle.sayings.specs.declared.Said.{Said}
use Rattle.sayings.proofs.Telling.{few}
-- the row first: a wrong rule is then an error about it
use Rattle.sayings.proofs.ARow.{octal}

-- ---- words one by one

abbrev number_at : ℕ → List Expected → ℕ
number_at i ps = number_of (get_or ps i expects.Point)

numbered : (e : Expected) → eqb (number_of e) 0 ≡ false
numbered expects.Point = refl
numbered expects.Number = refl
numbered expects.Count = refl
numbered expects.PointOrNone = refl
numbered expects.Set = refl

module _ (ps : List Expected) (ws : List Word) (i : ℕ) where
  abbrev left : ℕ → ℕ
  left j = first_wrong (map number_of (drop j ps)) (drop j ws)

  module _ (n : ℕ) (so_far : left i ≡ n) where
    pub hold_end : length ps ≤ i → Ok (tt {0}) ≡ unless_wrong n
    unfolding first_wrong
    hold_end h = rw (← so_far, drop_of_length-le ps h)

    module _ (h : i < length ps) (g : i < length ws) where
      one : left i ≡ first_of (wrong_in (number_at i ps) (cell i ws)) (left (i + 1))
      unfolding first_wrong
      one = rw (drop_more ps i expects.Point h, drop_more ws i (record { seen = zeros; set = 0; good = false; point = zeros }) g)

      pub hold_stop : holds_in (number_at i ps) (cell i ws) ≡ false → Err (number_at i ps) ≡ unless_wrong n
      hold_stop e = rw (← so_far, one, e, numbered (get_or ps i expects.Point), numbered (get_or ps i expects.Point))

      pub hold_on : holds_in (number_at i ps) (cell i ws) ≡ true → left (i + 1) ≡ n
      hold_on e = rw e at (sym one ∙ so_far)

-- ---- the row

named : (k : Kind) → eqb (kind_number k) 0 ≡ false
named Point = refl
named Link = refl
named Ordinary = refl
named Wait = refl
named Mark = refl
named Event = refl

ok_wrong : (n : ℕ) → Ok (tt {0}) ≡ unless_wrong n → eqb n 0 ≡ true
ok_wrong n e = go (eqb n 0) e
  where
    is_ok : Result (Unit {0}) ℕ → Bool
    is_ok (Ok x) = true
    is_ok (Err x) = false

    go : (t : Bool) → Ok (tt {0}) ≡ (if t then Ok (tt {0}) else Err n) → t ≡ true
    go true q = refl
    go false q = sym (ap is_ok q)

err_wrong : (n m : ℕ) → Err m ≡ unless_wrong n → (eqb n 0 ≡ false) × (m ≡ n)
err_wrong n m e = go (eqb n 0) e
  where
    is_ok : Result (Unit {0}) ℕ → Bool
    is_ok (Ok x) = true
    is_ok (Err x) = false

    number : Result (Unit {0}) ℕ → ℕ
    number (Ok x) = n
    number (Err x) = x

    go : (t : Bool) → Err m ≡ (if t then Ok (tt {0}) else Err n) → (t ≡ false) × (m ≡ n)
    go true q = (sym (ap is_ok q), ap number q)
    go false q = (refl, ap number q)

module _ (k : Kind) (n : ℕ) (cells : List Word) (ps : List Expected) (p : map number_of ps ≡ expected (kind_number k)) (size : length cells ≡ 6) where
  long : length (expected (kind_number k)) ≡ length ps
  long = ap length (sym p) ∙ length-map ps number_of

  pub row_fits : length ps ≤ length (take 5 (drop 1 cells))
  row_fits = rw (take_all 5 (drop 1 cells) (omega (arith, length-drop 1 cells, size))) (omega (arith, length-drop 1 cells, size, long, (few (kind_number k)).0))

  pub row_few : (n ≡ length ps + 1 → ⊥) → Err 2 ≡ kind_row (kind_number k) n cells
  unfolding kind_row
  row_few h = rw (named k, long, ne_eqb n (length ps + 1) h)

  module _ (h : n ≡ length ps + 1) where
    words : first_wrong (map number_of ps) (take 5 (drop 1 cells)) ≡ first_wrong (expected (kind_number k)) (drop 1 cells)
    words = rw (p, take_all 5 (drop 1 cells) (omega (arith, length-drop 1 cells, size)))

    pub row_wrong : (m : ℕ) → Err m ≡ unless_wrong (first_wrong (map number_of ps) (take 5 (drop 1 cells))) → Err m ≡ kind_row (kind_number k) n cells
    unfolding kind_row
    row_wrong m e =
        let w = err_wrong _ m (rw words at e) in
        rw (named k, long, eq-eqb n (length ps + 1) h, w.0, ← w.1)

    pub row_good : Ok (tt {0}) ≡ unless_wrong (first_wrong (map number_of ps) (take 5 (drop 1 cells))) → Ok (said_in (kind_number k) cells) ≡ kind_row (kind_number k) n cells
    unfolding kind_row
    row_good e = rw (named k, long, eq-eqb n (length ps + 1) h, ok_wrong _ (rw words at e))

-- an error that is handed on
pub err_on : (r : Result Said ℕ) (m : ℕ) → IsErrAnd r (λ e. e ≡ m) → r ≡ Err m
err_on (Ok x) m h = absurd h
err_on (Err e) m h = ap Err h
