-- Tests that are joined, read one by one, and back. Assumes nothing.
use mathlib.Core.Path.{◌≡◌, refl, sym}
use mathlib.Core.Logic.{◌⊎◌, inl, inr}
use mathlib.Core.Bool.{Bool, true, false, not, ◌&&◌, ◌||◌, true≢false, and-eq-true_iff}
use Prim.Native.Nat.{ℕ}
use native.Mathlib.Omega.{arith}

pub clash : {A : Type 0} → true ≡ false → A
clash e = absurd (true≢false e)

-- what has two constructors equal has 0 and 1 equal
pub differ : {A : Type 0} → ◌≡◌ {A = ℕ} 0 1 → A
differ e = absurd (omega arith)

pub both : (a b : Bool) → (a && b) ≡ true → (a ≡ true) × (b ≡ true)
both a b e = (and-eq-true_iff a b).0 e

pub and_both : (a b : Bool) → a ≡ true → b ≡ true → (a && b) ≡ true
and_both a b e f = rw (e, f)

pub either : (a b : Bool) → (a || b) ≡ true → (a ≡ true) ⊎ (b ≡ true)
either true b e = inl refl
either false b e = inr e

-- where a holds b does, as a test
pub unless : (a b : Bool) → (not a || b) ≡ true → a ≡ true → b ≡ true
unless true b e h = e
unless false b e h = clash (sym h)

pub as_unless : (a b : Bool) → (a ≡ true → b ≡ true) → (not a || b) ≡ true
as_unless true b h = h refl
as_unless false b h = refl
