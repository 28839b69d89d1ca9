-- The loop over a piece's bytes: what is known, with the bytes that are left, gives what is known at the end; what a byte's step does
-- to that, and what it is where the piece ends or a line is bad. Assumes nothing.
use mathlib.Core.Path.{◌≡◌, refl, sym, ap, ◌∙◌}
use mathlib.Core.Bool.{Bool, true, false, not}
use mathlib.Core.List.{List, [], ◌∷◌}
use Prim.Native.Nat.{ℕ, suc, ◌+◌, ◌-◌, ◌%◌, ◌≤◌, ◌<◌, min}
use native.Mathlib.Omega.{arith}
use lib.Dec.{eqb}
use lib.ListN.{length, set, drop, get_or, replicate, drop_of_length-le}
use lib.Seq.{drop-cons, drop-drop}
use borrow.Author.Tests.{ne_eqb}
use Rattle.std.specs.Prelude.{if◌then◌else◌}
use Rattle.records.specs.declared.Record.{Record}
use Rattle.records.specs.Limits.{most_records}
use Rattle.values.specs.Inside.{fresh, code_in}
use Rattle.values.specs.declared.Seen.{Seen}
use Rattle.fields.specs.Inside.{beginning, step_of, walked, walk_from}
use Rattle.fields.specs.declared.Spot.{Spot}
use Rattle.fields.specs.declared.Step.{Step}
use Rattle.fields.specs.declared.Step.TheVariants.{On, Comma, Ends, Broken}
use Rattle.fields.specs.declared.Walk.{Walk}
use Rattle.office_text.specs.Feeding.{stopped, counted, cells_with, stepped, fed_byte, fed_of}
use Rattle.office_text.specs.declared.Feeding.{Feeding}
use Rattle.cells.specs.Rows.{cell, readable_in, record_in, line_by}
use Rattle.std.specs.Prelude.{Result, Ok, Err}

-- nothing is bad so far
abbrev pub open' : ℕ → List Record → ℕ → List Seen → Spot → Feeding
open' n rs k cells s = record { number = 0; lines = n; records = rs; commas = k; cells = cells; spot = s }

pub opened : (f : Feeding) → f.number ≡ 0 → open' f.lines f.records f.commas f.cells f.spot ≡ f
opened f e =
    ap (λ (m : ℕ). record { number = m; lines = f.lines; records = f.records; commas = f.commas; cells = f.cells; spot = f.spot }) (sym e)

-- what is bad stays so
pub stays : (f : Feeding) (s : List ℕ) → (f.number ≡ 0 → ⊥) → f ≡ fed_of f s
unfolding fed_of fed_byte
stays f [] h = refl
stays f (c ∷ s) h = rw (ne_eqb f.number 0 h) (stays f s h)

-- the number of a bad line is none that stands for nothing
bad_line : (k : ℕ) (cells : List Seen) (m : ℕ) → line_by k cells ≡ Err m → m ≡ 0 → ⊥
unfolding line_by
bad_line k cells m e z = go (eqb k 5) (readable_in cells) (code_in (cell 5 cells)) e
  where
    go : (a b c : Bool) → (if not a then Err 41 else (if not b then Err 42 else (if not c then Err 43 else Ok (record_in cells)))) ≡ Err m → ⊥
    go false b c e = let q : 41 ≡ m = cc in omega arith
    go true false c e = let q : 42 ≡ m = cc in omega arith
    go true true false e = let q : 43 ≡ m = cc in omega arith
    go true true true e = let q : ◌≡◌ {A = ℕ} 0 1 = cc in omega arith

-- a walk does not go back, and past a byte it goes on
not_before : (s : Spot) (i : ℕ) (t : List ℕ) → i ≤ (walk_from s i t).next
unfolding walk_from
not_before s i [] = omega arith
not_before s i (c ∷ t) = go (step_of s c) (λ q. not_before q (suc i) t)
  where
    go : (x : Step) → ((q : Spot) → suc i ≤ (walk_from q (suc i) t).next) → i ≤ (walked x s i (λ q. walk_from q (suc i) t)).next
    go (On q) h = omega (arith, h q)
    go Comma h = omega arith
    go Ends h = omega arith
    go Broken h = omega arith

further : (s : Spot) (i c : ℕ) (t : List ℕ) → i < (walk_from s i (c ∷ t)).next
unfolding walk_from
further s i c t = go (step_of s c)
  where
    go : (x : Step) → i < (walked x s i (λ q. walk_from q (suc i) t)).next
    go (On q) = omega (arith, not_before q (suc i) t)
    go Comma = omega arith
    go Ends = omega arith
    go Broken = omega arith

-- a walk, and then what stopped it
fed_walk : (n : ℕ) (rs : List Record) (k : ℕ) (cells : List Seen) (s : Spot) (i : ℕ) (t : List ℕ)
    → fed_of (open' n rs k cells s) t
    ≡ fed_of (stepped (open' n rs k cells (walk_from s i t).spot) (walk_from s i t).step) (drop ((walk_from s i t).next - i) t)
unfolding fed_of fed_byte walk_from
fed_walk n rs k cells s i [] = let z : i - i ≡ 0 = omega arith in rw z
fed_walk n rs k cells s i (c ∷ t) = go (step_of s c) (λ q. fed_walk n rs k cells q (suc i) t)
  where
    go : (x : Step)
        → ((q : Spot) → fed_of (open' n rs k cells q) t
        ≡ fed_of (stepped (open' n rs k cells (walk_from q (suc i) t).spot) (walk_from q (suc i) t).step) (drop ((walk_from q (suc i) t).next - suc i) t))
        → fed_of (stepped (open' n rs k cells s) x) t
        ≡ fed_of (stepped (open' n rs k cells (walked x s i (λ q. walk_from q (suc i) t)).spot) (walked x s i (λ q. walk_from q (suc i) t)).step) (drop ((walked x s i (λ q. walk_from q (suc i) t)).next - i) (c ∷ t))
    go (On q) h =
        let b = not_before q (suc i) t in
        let z : (walk_from q (suc i) t).next - i ≡ suc ((walk_from q (suc i) t).next - suc i) = omega arith in
        rw z (h q)
    go Comma h = let z : i + 1 - i ≡ 1 = omega arith in rw z
    go Ends h = let z : i + 1 - i ≡ 1 = omega arith in rw z
    go Broken h = let z : i + 1 - i ≡ 1 = omega arith in rw z

module _ (piece : List ℕ) (i n : ℕ) (rs : List Record) (k : ℕ) (cells : List Seen) (s : Spot) (w : Feeding) (inv : fed_of (open' n rs k cells s) (drop i piece) ≡ w) where
  -- the piece ends
  pub feeds_end : length piece ≤ i → open' n rs k cells s ≡ w
  unfolding fed_of
  feeds_end h = rw (drop_of_length-le piece h) at inv

  -- the walk is past where it began
  walk_further : i < length piece → i < (walk_from s i (drop i piece)).next
  walk_further h = rw (drop-cons piece i 0 h) (further s i (get_or piece i 0) (drop (suc i) piece))

  module _ (x : Walk) (is : x ≡ walk_from s i (drop i piece)) where
    pub past : i < length piece → i < x.next
    past h = rw is (walk_further h)

    on : fed_of (stepped (open' n rs k cells x.spot) x.step) (drop x.next piece) ≡ w
    on =
        let b = not_before s i (drop i piece) in
        let z : i + ((walk_from s i (drop i piece)).next - i) ≡ (walk_from s i (drop i piece)).next = omega arith in
        let d = drop-drop ((walk_from s i (drop i piece)).next - i) i piece in
        rw is (rw z at (rw d at (sym (fed_walk n rs k cells s i (drop i piece)) ∙ inv)))

    -- a byte more
    pub feeds_on : (u : Step) → x.step ≡ u → fed_of (stepped (open' n rs k cells x.spot) u) (drop x.next piece) ≡ w
    feeds_on u e = rw e at on

    -- a comma
    pub feeds_comma : x.step ≡ Comma → (k' : ℕ) → k' ≡ min (k + 1) 6 → (b : Spot) → b ≡ beginning
        → fed_of (open' n rs k' (cells_with k cells x.spot.seen) b) (drop x.next piece) ≡ w
    feeds_comma e k' p b y = rw (p, y) (feeds_on Comma e)

    -- a whole line
    pub feeds_line : x.step ≡ Ends → (l : Result Record ℕ) → l ≡ line_by k (cells_with k cells x.spot.seen) → (r : Record) → l ≡ Ok r → (n' : ℕ) → n' ≡ counted n → (u : Seen) → u ≡ fresh
        → (b : Spot) → b ≡ beginning → fed_of (open' n' (set rs (n % most_records) r) 0 (replicate 6 u) b) (drop x.next piece) ≡ w
    feeds_line e l j r g n' p u y b z = rw (p, y, z) (rw (← j, g) at (feeds_on Ends e))

    -- it stops at a bad line
    feeds_stop : (m : ℕ) → (m ≡ 0 → ⊥) → stepped (open' n rs k cells x.spot) x.step ≡ stopped m n → stopped m n ≡ w
    feeds_stop m b p = stays (stopped m n) (drop x.next piece) b ∙ rw p at on

    pub feeds_broken : x.step ≡ Broken → (g : Feeding) → g ≡ stopped 40 n → g ≡ w
    feeds_broken e g p = p ∙ feeds_stop 40 (λ q. omega arith) (rw e)

    pub feeds_bad : x.step ≡ Ends → (l : Result Record ℕ) → l ≡ line_by k (cells_with k cells x.spot.seen) → (m : ℕ) → l ≡ Err m → (g : Feeding) → g ≡ stopped m n → g ≡ w
    feeds_bad e l j m z g p =
        let d : line_by k (cells_with k cells x.spot.seen) ≡ Err m = sym j ∙ z in
        p ∙ feeds_stop m (bad_line k (cells_with k cells x.spot.seen) m d) (rw (e, d))
