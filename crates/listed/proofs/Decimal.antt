-- A number as its decimal digits says that number, and its bytes part no words and no lines. Assumes nothing.
use mathlib.Core.Path.{◌≡◌, refl, ◌∙◌}
use mathlib.Core.Bool.{Bool, true, false, cond}
use mathlib.Core.List.{List, [], ◌∷◌, ◌++◌}
use Prim.Native.Nat.{ℕ, zero, suc, ◌+◌, ◌/◌, ◌%◌, ◌^◌, ◌≤◌, ◌<◌}
use native.Mathlib.Omega.{arith}
use lib.Dec.{ltb, leb}
use lib.IntN.{ℤ, pos, negsuc}
use lib.ListN.{length, length-append}
use lib.Signed.{mag}
use borrow.Author.Tests.{ne_eqb, lt-ltb, leb-true, ltb-true}
use Rattle.numbers.specs.Fits.{All}
use Rattle.values.specs.Values.{is_empty, is_digit, all_digits, value_from, is_number, number_of}
use Rattle.values.proofs.Tests.{both}
use Rattle.values.proofs.Tells.{digits_snoc, value_snoc}
use Rattle.values.proofs.Digits.{digit_is, number_up, number_down}
use Rattle.phrases.specs.Phrases.{is_below, value_of}
use Rattle.lines.specs.Text.{digits, decimal, piece_text}
use Rattle.text.specs.Lines.{signed_piece}

all_digits_lem : (k n : ℕ) → all_digits (digits k n) ≡ true
unfolding digits all_digits
all_digits_lem zero n = refl
all_digits_lem (suc k) n = one (ltb n 10) (all_digits_lem k (n / 10))
  where
    one : (t : Bool) → all_digits (digits k (n / 10)) ≡ true → all_digits (cond t [] (digits k (n / 10)) ++ ((48 + n % 10) ∷ [])) ≡ true
    one true e = rw (digit_is n)
    one false e = digits_snoc (digits k (n / 10)) (48 + n % 10) ∙ rw (e, digit_is n)

value : (k n : ℕ) → n < 10 ^ k → value_from 0 (digits k n) ≡ n
unfolding digits value_from
value zero n h = omega arith
value (suc k) n h = one (ltb n 10) refl (value k (n / 10) (omega arith))
  where
    one : (t : Bool) → ltb n 10 ≡ t → value_from 0 (digits k (n / 10)) ≡ n / 10 → value_from 0 (cond t [] (digits k (n / 10)) ++ ((48 + n % 10) ∷ [])) ≡ n
    one true e v = omega (arith, ltb-true n 10 e)
    one false e v = value_snoc 0 (digits k (n / 10)) (48 + n % 10) ∙ rw v (omega arith)

some_last : (f : List ℕ) (c : ℕ) → is_empty (f ++ (c ∷ [])) ≡ false
some_last f c = ne_eqb (length (f ++ (c ∷ []))) 0 (λ (e : length (f ++ (c ∷ [])) ≡ 0). omega (arith, length-append f (c ∷ []), e))

module _ (n : ℕ) where
  pub decimal_digits : all_digits (decimal n) ≡ true
  decimal_digits = all_digits_lem 20 n

  pub decimal_some : is_empty (decimal n) ≡ false
  unfolding digits
  decimal_some = some_last (cond (ltb n 10) [] (digits 19 (n / 10))) (48 + n % 10)

  module _ (h : n < 2 ^ 32) where
    decimal_value : value_from 0 (decimal n) ≡ n
    decimal_value = value 20 n (omega arith)

    -- a number below m is typed as one, and says itself
    pub decimal_below : (m : ℕ) → n < m → (is_below m (decimal n) ≡ true) × (value_of (decimal n) ≡ n)
    decimal_below m l = (rw (decimal_some, decimal_digits, decimal_value, lt-ltb n m l), decimal_value)

-- a signed number is typed as one, and says itself
pub signed_number : (z : ℤ) → mag z < 2 ^ 31 → (is_number (piece_text (signed_piece z)) ≡ true) × (number_of (piece_text (signed_piece z)) ≡ z)
signed_number (pos n) h = number_up (decimal n) (decimal_digits n) (decimal_some n) n (decimal_value n (omega arith)) h
signed_number (negsuc n) h =
    number_down (decimal (n + 1)) (decimal_digits (n + 1)) (decimal_some (n + 1)) n (decimal_value (n + 1) (omega arith) ∙ omega arith) h

-- ---- bytes that part nothing

-- a minus, a digit or a letter
abbrev pub Solid : ℕ → Type 0
Solid c = 45 ≤ c

digits_solid : (f : List ℕ) → all_digits f ≡ true → All Solid f
unfolding all_digits
digits_solid [] e = tt
digits_solid (c ∷ f) e =
    let b = both (is_digit c) (all_digits f) e in
    let l = leb-true 48 c (both (leb 48 c) (leb c 57) b.0).0 in
    (omega arith, digits_solid f b.1)

pub decimal_solid : (n : ℕ) → All Solid (decimal n)
decimal_solid n = digits_solid (decimal n) (decimal_digits n)

pub signed_solid : (z : ℤ) → All Solid (piece_text (signed_piece z))
signed_solid (pos n) = decimal_solid n
signed_solid (negsuc n) = (omega arith, decimal_solid (n + 1))

pub signed_some : (z : ℤ) → is_empty (piece_text (signed_piece z)) ≡ false
signed_some (pos n) = decimal_some n
signed_some (negsuc n) = ne_eqb (length (45 ∷ decimal (n + 1))) 0 (λ e. omega arith)
