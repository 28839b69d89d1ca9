-- The loops that look for the first bad pair. Assumes nothing.
use mathlib.Core.Path.{◌≡◌, refl, sym, ap, ◌∙◌}
use mathlib.Core.Bool.{Bool, true, false, ◌&&◌}
use Prim.Native.Nat.{ℕ, ◌+◌, ◌<◌, ◌≤◌}
use native.Mathlib.Omega.{arith}
use native.Mathlib.Decide.{ℕ_discrete}
use Rattle.std.specs.Prelude.{None, Some}
use lib.Dec.{ltb}
use borrow.Author.Tests.{ltb-true, ltb-false, lt-ltb}
use Rattle.tables.specs.Tables.{Table, none}
use Rattle.tables.specs.Entries.{nowhere, wide}
use Rattle.tables.proofs.Widths.{finite, wide_there, wide_mono, wide_less}
use Rattle.pairs.specs.Pairs.{Kept, Undercut, InRow, none_here, here, FirstPair, no_pair, pair}

-- the test of one pair
both : (a b : Bool) → a && b ≡ true → (a ≡ true) × (b ≡ true)
both true b e = (refl, e)
both false b e = absurd (let z : ◌≡◌ {A = ℕ} 0 1 = cc in omega arith)

pub is_undercut : (d v : ℕ) {b : Bool} → b ≡ (ltb d nowhere && ltb d v) → b ≡ true → (wide d < none) × (wide d < wide v)
is_undercut d v e h =
    let k = both (ltb d nowhere) (ltb d v) (sym e ∙ h) in
    let l = ltb-true d nowhere k.0 in
    (wide_there d l, wide_less d v l (ltb-true d v k.1))

pub is_kept_lem : (d v : ℕ) {b : Bool} → b ≡ (ltb d nowhere && ltb d v) → b ≡ false → wide d < none → wide v ≤ wide d
is_kept_lem d v e h l = wide_mono v d (ltb-false d v (ap (λ (b : Bool). b && ltb d v) (sym (lt-ltb d nowhere (finite d l))) ∙ sym e ∙ h))

-- the points below y of the row of X are no trouble
pub record Clean (n : ℕ) (d v : Table) (X y : ℕ) : Type 0 where
  pub within : y ≤ n
  pub before : (Y : ℕ) → Y < y → Kept d v X Y

module _ {n : ℕ} {d v : Table} {X y : ℕ} (s : Clean n d v X y) where
  pub stops : y < n → Undercut d v X y → InRow n d v X (Some y)
  stops h w = here h s.before w

  pub goes_on_lem : y < n → Kept d v X y → Clean n d v X (y + 1)
  goes_on_lem h w = record { within = omega arith; before = before }
    where
      before : (Y : ℕ) → Y < y + 1 → Kept d v X Y
      before Y l = elim (ℕ_discrete Y y) [
        | yes k ↦ rw k w
        | no k ↦ s.before Y (omega arith)
      ]

  pub clean_row : n ≤ y → InRow n d v X None
  clean_row h = none_here (λ Y l. s.before Y (omega arith))

-- the rows below x are no trouble
pub record CleanRows (n : ℕ) (d v : Table) (x : ℕ) : Type 0 where
  pub within : x ≤ n
  pub before : (X Y : ℕ) → X < x → Y < n → Kept d v X Y

module _ {n : ℕ} {d v : Table} {x : ℕ} (s : CleanRows n d v x) where
  pub found : {y : ℕ} → x < n → InRow n d v x (Some y) → FirstPair n (Kept d v) (Undercut d v) (Some (x, y))
  found h (here l before w) = pair h l s.before before w

  pub next_row : x < n → InRow n d v x None → CleanRows n d v (x + 1)
  next_row h (none_here kept) = record { within = omega arith; before = before }
    where
      before : (X Y : ℕ) → X < x + 1 → Y < n → Kept d v X Y
      before X Y i j = elim (ℕ_discrete X x) [
        | yes k ↦ rw k (kept Y j)
        | no k ↦ s.before X Y (omega arith) j
      ]

  pub clean_all : n ≤ x → FirstPair n (Kept d v) (Undercut d v) None
  clean_all h = no_pair (λ X Y i j. s.before X Y (omega arith) j)
