-- The bits of a number, taken lowest first by halving, for the proofs of `Laws`: what a bit that is added or taken away changes. Assumes nothing.
use mathlib.Core.Path.{◌≡◌, refl, sym, ◌∙◌}
use mathlib.Core.Bool.{true, false, ◌||◌}
use Prim.Native.Nat.{ℕ, zero, suc, ◌+◌, ◌*◌, ◌-◌, ◌/◌, ◌%◌, ◌^◌, ◌<◌, ◌≤◌}
use native.Mathlib.Omega.{arith}
use native.Mathlib.Nat.{pow-suc, div-div-eq-div-mul, mul_comm}
use borrow.Author.Tests.{eqb-true, eqb-false, lt-ltb, le-ltb}
use lib.Count.{ones, ones_step}
use lib.Dec.{eqb, ltb, eqb-zero-suc, eqb-suc-zero, eqb-suc-suc, leb-suc-suc}
use lib.Pow.{pow_pos}
use Rattle.points.specs.Sets.{member}

abbrev pub bit : ℕ → ℕ → ℕ
bit s zero = s % 2
bit s (suc p) = bit (s / 2) p

pub twice : (p : ℕ) → 2 ^ suc p ≡ 2 * 2 ^ p
twice p = pow-suc 2 p ∙ mul_comm (2 ^ p) 2

-- ---- a member is a bit that is 1

shifted : (s p : ℕ) → s / 2 ^ p % 2 ≡ bit s p
shifted s zero = let e : s / 1 ≡ s = omega arith in rw e
shifted s (suc p) = rw (twice p, ← div-div-eq-div-mul s 2 (2 ^ p)) (shifted (s / 2) p)

pub member_bit : (s p : ℕ) → member s p ≡ eqb (bit s p) 1
unfolding member
member_bit s p = rw (shifted s p)

pub bit_one : (s p : ℕ) → member s p ≡ true → bit s p ≡ 1
bit_one s p h = eqb-true _ _ (sym (member_bit s p) ∙ h)

pub bit_zero : (s p : ℕ) → member s p ≡ false → bit s p ≡ 0
bit_zero s p h =
    let n : bit s p ≡ 1 → ⊥ = eqb-false _ _ (sym (member_bit s p) ∙ h) in
    omega (arith, shifted s p)

-- ---- a bit that is 0 is added

half : (s p : ℕ) → (s + 2 ^ suc p) / 2 ≡ s / 2 + 2 ^ p
half s p = rw (twice p) (omega arith)

odd : (s p : ℕ) → (s + 2 ^ suc p) % 2 ≡ s % 2
odd s p = rw (twice p) (omega arith)

add_bit : (s p q : ℕ) → bit s p ≡ 0 → eqb (bit (s + 2 ^ p) q) 1 ≡ (eqb q p || eqb (bit s q) 1)
add_bit s zero zero h = let e : (s + 1) % 2 ≡ 1 = omega arith in rw e
add_bit s zero (suc q) h = let e : (s + 1) / 2 ≡ s / 2 = omega arith in rw (e, eqb-suc-zero q)
add_bit s (suc p) zero h = rw (odd s p, eqb-zero-suc p)
add_bit s (suc p) (suc q) h = rw (half s p, eqb-suc-suc q p) (add_bit (s / 2) p q h)

pub add_member : (s p q : ℕ) → member s p ≡ false → member (s + 2 ^ p) q ≡ (eqb q p || member s q)
add_member s p q h = rw (member_bit (s + 2 ^ p) q, member_bit s q) (add_bit s p q (bit_zero s p h))

pub add_fits : (k s p : ℕ) → s < 2 ^ k → p < k → bit s p ≡ 0 → s + 2 ^ p < 2 ^ k
add_fits zero s p f l z = absurd (omega arith)
add_fits (suc k) s zero f l z = rw (twice k) (omega (arith, rw (twice k) at f))
add_fits (suc k) s (suc p) f l z =
    let f' = rw (twice k) at f in
    let r = add_fits k (s / 2) p (omega arith) (omega arith) z in
    rw (twice k, twice p) (omega arith)

pub add_ones : (s p : ℕ) → bit s p ≡ 0 → ones (s + 2 ^ p) ≡ ones s + 1
add_ones s zero h =
    let e : (s + 1) / 2 ≡ s / 2 = omega arith in
    omega (arith, ones_step s, rw e at (ones_step (s + 1)))
add_ones s (suc p) h =
    omega (arith, ones_step s, add_ones (s / 2) p h, rw (half s p, odd s p) at (ones_step (s + 2 ^ suc p)))

-- ---- a bit that is 1 is taken away: it can be, and it is 0 then

pub take_bit : (s p : ℕ) → bit s p ≡ 1 → (2 ^ p ≤ s) × (bit (s - 2 ^ p) p ≡ 0)
take_bit s zero h = (omega arith, omega arith)
take_bit s (suc p) h =
    let r = take_bit (s / 2) p h in
    let e : (s - 2 * 2 ^ p) / 2 ≡ s / 2 - 2 ^ p = omega (arith, r.0) in
    rw (twice p) (omega (arith, r.0), rw e r.1)

-- ---- whole numbers by their bits

pub same_bits : (k s t : ℕ) → s < 2 ^ k → t < 2 ^ k → ((p : ℕ) → p < k → bit s p ≡ bit t p) → s ≡ t
same_bits zero s t f g h = omega arith
same_bits (suc k) s t f g h =
    let f' = rw (twice k) at f in
    let g' = rw (twice k) at g in
    let r : s / 2 ≡ t / 2 = same_bits k (s / 2) (t / 2) (omega arith) (omega arith) (λ p l. h (suc p) (omega arith)) in
    omega (arith, h 0 (omega arith))

none_bit : (p : ℕ) → eqb (bit 0 p) 1 ≡ false
none_bit zero = refl
none_bit (suc p) = none_bit p

pub low_bits : (k p : ℕ) → eqb (bit (2 ^ k - 1) p) 1 ≡ ltb p k
low_bits zero p = none_bit p ∙ sym (le-ltb p 0 (omega arith))
low_bits (suc k) zero =
    let e : (2 ^ suc k - 1) % 2 ≡ 1 = rw (twice k) (omega (arith, pow_pos k)) in
    rw (e, lt-ltb 0 (suc k) (omega arith))
low_bits (suc k) (suc p) =
    let e : (2 ^ suc k - 1) / 2 ≡ 2 ^ k - 1 = rw (twice k) (omega (arith, pow_pos k)) in
    rw (e, leb-suc-suc (suc p) k) (low_bits k p)
