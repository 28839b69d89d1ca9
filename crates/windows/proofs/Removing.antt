-- The members of one set that are not in another, by the bits of both. Assumes nothing.
use mathlib.Core.Path.{◌≡◌, refl}
use mathlib.Core.Bool.{not, ◌&&◌}
use Prim.Native.Nat.{ℕ, zero, suc, ◌/◌, ◌%◌, ◌^◌, ◌<◌}
use native.Mathlib.Omega.{arith}
use lib.Bits.{bit_or, bit_xor, or_step, xor_step, or_shr, xor_shr, or_lt, xor_lt}
use lib.Dec.{eqb}
use Rattle.points.specs.Sets.{member}
use Rattle.windows.specs.Inside.{Minus}

-- one bit
lowest : (x y : ℕ) → eqb (bit_xor (bit_or x y) y % 2) 1 ≡ (eqb (x % 2) 1 && not (eqb (y % 2) 1))
lowest x y = go (x % 2) (y % 2) refl refl
  where
    go : (u v : ℕ) → x % 2 ≡ u → y % 2 ≡ v → eqb (bit_xor (bit_or x y) y % 2) 1 ≡ (eqb u 1 && not (eqb v 1))
    go zero zero p q =
        let o : bit_or x y % 2 ≡ 0 = omega (arith, rw (p, q) at (or_step x y)) in
        let e : bit_xor (bit_or x y) y % 2 ≡ 0 = omega (arith, rw (o, q) at (xor_step (bit_or x y) y)) in
        rw e
    go zero (suc zero) p q =
        let o : bit_or x y % 2 ≡ 1 = omega (arith, rw (p, q) at (or_step x y)) in
        let e : bit_xor (bit_or x y) y % 2 ≡ 0 = omega (arith, rw (o, q) at (xor_step (bit_or x y) y)) in
        rw e
    go (suc zero) zero p q =
        let o : bit_or x y % 2 ≡ 1 = omega (arith, rw (p, q) at (or_step x y)) in
        let e : bit_xor (bit_or x y) y % 2 ≡ 1 = omega (arith, rw (o, q) at (xor_step (bit_or x y) y)) in
        rw e
    go (suc zero) (suc zero) p q =
        let o : bit_or x y % 2 ≡ 1 = omega (arith, rw (p, q) at (or_step x y)) in
        let e : bit_xor (bit_or x y) y % 2 ≡ 0 = omega (arith, rw (o, q) at (xor_step (bit_or x y) y)) in
        rw e
    go zero (suc (suc v)) p q = absurd (omega arith)
    go (suc zero) (suc (suc v)) p q = absurd (omega arith)
    go (suc (suc u)) v p q = absurd (omega arith)

pub minus : (s t : ℕ) → s < 2 ^ 32 → t < 2 ^ 32 → Minus s t (bit_xor (bit_or s t) t)
unfolding member
minus s t f g =
    record {
      fits = xor_lt 32 (bit_or s t) t (or_lt 32 s t f g) g;
      members = λ p. rw (xor_shr (bit_or s t) t p, or_shr s t p) (lowest (s / 2 ^ p) (t / 2 ^ p));
    }
