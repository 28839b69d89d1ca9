-- Sums of the days of years and of months: they rise, and a day falls into one of them only. Assumes nothing.
use mathlib.Core.Path.{◌≡◌, refl}
use mathlib.Core.Bool.{Bool, true, false}
use Prim.Native.Nat.{ℕ, zero, suc, ◌+◌, ◌<◌, ◌≤◌}
use native.Mathlib.Numerals.{add-one}
use native.Mathlib.Omega.{arith}
use lib.Dec.{ltb}
use borrow.Author.Tests.{ltb-true, ltb-false}
use Rattle.dates.specs.Counting.{before, Falls}
-- the known dates first: a wrong calendar is then an error about them
use Rattle.dates.proofs.ACase.{as_known}

-- A part begins where the one before it ends.
pub next_part : (f : ℕ → ℕ) (n : ℕ) → before f (n + 1) ≡ before f n + f n
unfolding before
next_part f n = rw add-one

-- A later part begins no earlier.
pub rises : (f : ℕ → ℕ) (i j : ℕ) → i ≤ j → before f i ≤ before f j
unfolding before
rises f i zero l = let e : i ≡ 0 = omega arith in rw e (omega arith)
rises f i (suc j) l = go (ltb i (suc j)) refl (rises f i j)
  where
    go : (b : Bool) → ltb i (suc j) ≡ b → (i ≤ j → before f i ≤ before f j) → before f i ≤ before f j + f j
    go true e r = let k = ltb-true i (suc j) e in omega (arith, r (omega arith))
    go false e r = let k : i ≡ suc j = omega (arith, ltb-false i (suc j) e) in rw k (omega arith)

-- A part past another begins where that one has ended, or later.
after : (f : ℕ → ℕ) (n i j x y : ℕ) → Falls f n i x → Falls f n j y → i < j → ⊥
unfolding before
after f n i j x y p q l = omega (arith, rises f (suc i) j l)

-- A day falls into one part only, at one place.
pub falls_once : (f : ℕ → ℕ) (n i j x y : ℕ) → Falls f n i x → Falls f n j y → i ≡ j
falls_once f n i j x y p q = go (ltb i j) refl (ltb j i) refl
  where
    go : (b : Bool) → ltb i j ≡ b → (c : Bool) → ltb j i ≡ c → i ≡ j
    go true e c h = absurd (after f n i j x y p q (ltb-true i j e))
    go false e true h = absurd (after f n j i y x q p (ltb-true j i h))
    go false e false h = omega (arith, ltb-false i j e, ltb-false j i h)
