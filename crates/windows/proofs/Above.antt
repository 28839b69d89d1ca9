-- When a Low is above H, which is kept 100,000 up. Assumes nothing.
use mathlib.Core.Path.{◌≡◌, refl, sym}
use mathlib.Core.Bool.{Bool, true, false}
use Prim.Native.Nat.{ℕ, ◌+◌, ◌-◌, ◌≤◌}
use native.Mathlib.Omega.{arith}
use borrow.Author.Tests.{ltb-true, ltb-false, lt-ltb, le-ltb}
use lib.Dec.{ltb}
use Rattle.plan.specs.Limits.{farthest}

-- a Low above an H that is not below zero
pub above_same : (high low : ℕ) → farthest ≤ high → ltb (high - farthest) low ≡ ltb high (low + farthest)
above_same high low h = go (ltb (high - farthest) low) refl
  where
    go : (b : Bool) → ltb (high - farthest) low ≡ b → b ≡ ltb high (low + farthest)
    go true e = sym (lt-ltb high (low + farthest) (omega (arith, ltb-true (high - farthest) low e)))
    go false e = sym (le-ltb high (low + farthest) (omega (arith, ltb-false (high - farthest) low e)))
