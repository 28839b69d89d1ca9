-- What the code's `1 << p` is for a point p, and what putting that bit into a set gives. Assumes nothing.
use mathlib.Core.Path.{◌≡◌, refl, ◌∙◌}
use mathlib.Core.Bool.{Bool, true, false}
use Prim.Native.Nat.{ℕ, suc, ◌+◌, ◌-◌, ◌*◌, ◌/◌, ◌%◌, ◌^◌, ◌<◌}
use native.Mathlib.Nat.{one-mul, pow-suc}
use native.Mathlib.Omega.{arith}
use lib.Bits.{bit_and, bit_or, and_high, or_add_and}
use borrow.Author.Tests.{eqb-true, eqb-false}
use lib.Dec.{lit<}
use lib.Pow.{shl_exact}
use Rattle.points.specs.Sets.{member, with_of}
use Rattle.points.proofs.Laws.{with_new, with_old}

pub one_shl : (p : ℕ) → p < 32 → 1 * 2 ^ p % 2 ^ 32 ≡ 2 ^ p
one_shl p l = shl_exact {a = 1} 1 p 32 (lit< tt) (omega arith) ∙ one-mul (2 ^ p)

-- what s and the bit of p have in common is that bit where s has p, else nothing
common : (s p : ℕ) → bit_and s (2 ^ p) ≡ (s / 2 ^ p % 2) * 2 ^ p
common s p =
    let q : 1 + p ≡ suc p = omega arith in
    let e : 2 ^ (1 + p) - 2 ^ p ≡ 2 ^ p = rw q (omega (arith, pow-suc 2 p)) in
    rw e at (and_high s 1 p)

pub or_bit : (s p : ℕ) → p < 32 → bit_or s (2 ^ p) ≡ with_of s p
unfolding member
or_bit s p l = go (member s p) refl
  where
    go : (b : Bool) → member s p ≡ b → bit_or s (2 ^ p) ≡ with_of s p
    go true h =
        let o : s / 2 ^ p % 2 ≡ 1 = eqb-true _ _ h in
        rw (with_old s p h) (omega (arith, or_add_and s (2 ^ p), rw o at (common s p)))
    go false h =
        let n : s / 2 ^ p % 2 ≡ 1 → ⊥ = eqb-false _ _ h in
        let z : s / 2 ^ p % 2 ≡ 0 = omega arith in
        rw (with_new s p l h) (omega (arith, or_add_and s (2 ^ p), rw z at (common s p)))
