-- What digits say as a number, alone and behind a minus. Assumes nothing.
use mathlib.Core.Path.{◌≡◌, refl}
use mathlib.Core.Bool.{Bool, true, false, ◌&&◌, not}
use mathlib.Core.List.{List, [], ◌∷◌}
use Prim.Native.Nat.{ℕ, suc, ◌+◌, ◌%◌, ◌^◌, ◌<◌}
use native.Mathlib.Omega.{arith}
use lib.Dec.{leb}
use lib.IntN.{pos, negsuc}
use lib.ListN.{length}
use borrow.Author.Tests.{ne_eqb, eqb-true, lt-ltb, le-leb, leb-true}
use Rattle.std.specs.Prelude.{if◌then◌else◌}
use Rattle.values.specs.Values.{is_empty, is_digit, is_minus, all_digits, value_from, is_negative, unsigned, is_number, number_of}
use Rattle.values.proofs.Tests.{both}

pub digit_is : (n : ℕ) → is_digit (48 + n % 10) ≡ true
digit_is n = rw (le-leb 48 (48 + n % 10) (omega arith), le-leb (48 + n % 10) 57 (omega arith))

-- digits have no minus in front
pub digits_unsigned : (f : List ℕ) → all_digits f ≡ true → (unsigned f ≡ f) × (is_negative f ≡ false)
unfolding unsigned is_negative all_digits
digits_unsigned [] e = (refl, refl)
digits_unsigned (c ∷ f) e =
    let d = both (leb 48 c) (leb c 57) (both (is_digit c) (all_digits f) e).0 in
    let m : is_minus c ≡ false = ne_eqb c 45 (λ q. let l = leb-true 48 c d.0 in omega arith) in
    (rw m, m)

-- a word that begins with a minus is not all digits
pub no_minus : (g : List ℕ) → (all_digits (unsigned g) && not (is_negative g)) ≡ all_digits g
unfolding all_digits unsigned is_negative
no_minus [] = refl
no_minus (c ∷ g) = go (is_minus c) refl
  where
    none : (t : Bool) → (t && false) ≡ false
    none true = refl
    none false = refl

    whole : (t : Bool) → (t && true) ≡ t
    whole true = refl
    whole false = refl

    go : (m : Bool) → is_minus c ≡ m → (all_digits (if m then g else c ∷ g) && not m) ≡ (is_digit c && all_digits g)
    go true e = rw (eqb-true c 45 e) (none (all_digits g))
    go false e = whole (is_digit c && all_digits g)

module _ (f : List ℕ) (d : all_digits f ≡ true) (some : is_empty f ≡ false) where
  -- digits are the number of their value
  pub number_up : (n : ℕ) → value_from 0 f ≡ n → n < 2 ^ 31 → (is_number f ≡ true) × (number_of f ≡ pos n)
  number_up n v h =
      let u = digits_unsigned f d in
      (rw (u.1, u.0, v, d, some, lt-ltb n (2 ^ 31) h), rw (u.1, u.0, v))

  -- behind a minus they are so much below zero
  pub number_down : (n : ℕ) → value_from 0 f ≡ suc n → n < 2 ^ 31 → (is_number (45 ∷ f) ≡ true) × (number_of (45 ∷ f) ≡ negsuc n)
  unfolding is_negative unsigned
  number_down n v h =
      let q : is_empty (45 ∷ f) ≡ false = ne_eqb (length (45 ∷ f)) 0 (λ e. omega arith) in
      (rw (q, v, d, some, lt-ltb n (2 ^ 31) h), rw v)
