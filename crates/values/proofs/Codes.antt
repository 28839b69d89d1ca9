-- Pond codes and their numbers, one to one: every code of the shape has a number from 1 to 6,760,000, no two codes have the same,
-- and each of those numbers is some code's. So none is 0, which says that there is no pond. Assumes nothing.
use mathlib.Core.Path.{◌≡◌, refl, sym, ◌∙◌}
use mathlib.Core.Bool.{true, ◌&&◌}
use mathlib.Core.List.{List, [], ◌∷◌}
use Prim.Native.Nat.{ℕ, ◌+◌, ◌*◌, ◌-◌, ◌/◌, ◌%◌, ◌≤◌, ◌<◌}
use native.Mathlib.Omega.{arith}
use lib.Dec.{eqb, leb}
use lib.ListN.{length}
use borrow.Author.Tests.{eqb-true, leb-true, le-leb}
use Rattle.values.specs.Values.{is_digit, is_capital, value_from, is_shaped, shaped_code}
use Rattle.values.specs.Codes.{most_codes, code_text}
use Rattle.values.proofs.Tests.{both}

-- a field of the shape, taken apart
record Shaped (f : List ℕ) : Type 0 where
  a : ℕ
  b : ℕ
  w : ℕ
  x : ℕ
  y : ℕ
  z : ℕ
  is : f ≡ a ∷ b ∷ w ∷ x ∷ y ∷ z ∷ []
  first : (65 ≤ a) × (a ≤ 90)
  second : (65 ≤ b) × (b ≤ 90)
  thousands : (48 ≤ w) × (w ≤ 57)
  hundreds : (48 ≤ x) × (x ≤ 57)
  tens : (48 ≤ y) × (y ≤ 57)
  ones : (48 ≤ z) × (z ≤ 57)

within : (l c h : ℕ) → (leb l c && leb c h) ≡ true → (l ≤ c) × (c ≤ h)
within l c h e = let b = both (leb l c) (leb c h) e in (leb-true l c b.0, leb-true c h b.1)

-- a field of the shape has six bytes
pub shaped_length : (f : List ℕ) → is_shaped f ≡ true → length f ≡ 6
unfolding is_shaped
shaped_length f e = eqb-true (length f) 6 (both (eqb (length f) 6) _ e).0

shaped : (f : List ℕ) → is_shaped f ≡ true → Shaped f
unfolding is_shaped
shaped [] e = absurd (let l = shaped_length [] e in omega arith)
shaped (a ∷ []) e = absurd (let l = shaped_length (a ∷ []) e in omega arith)
shaped (a ∷ b ∷ []) e = absurd (let l = shaped_length (a ∷ b ∷ []) e in omega arith)
shaped (a ∷ b ∷ w ∷ []) e = absurd (let l = shaped_length (a ∷ b ∷ w ∷ []) e in omega arith)
shaped (a ∷ b ∷ w ∷ x ∷ []) e = absurd (let l = shaped_length (a ∷ b ∷ w ∷ x ∷ []) e in omega arith)
shaped (a ∷ b ∷ w ∷ x ∷ y ∷ []) e = absurd (let l = shaped_length (a ∷ b ∷ w ∷ x ∷ y ∷ []) e in omega arith)
shaped (a ∷ b ∷ w ∷ x ∷ y ∷ z ∷ v ∷ f) e = absurd (let l = shaped_length (a ∷ b ∷ w ∷ x ∷ y ∷ z ∷ v ∷ f) e in omega arith)
shaped (a ∷ b ∷ w ∷ x ∷ y ∷ z ∷ []) e =
    let l = both (is_capital a && is_capital b) (is_digit w && (is_digit x && (is_digit y && is_digit z))) e in
    let m = both (is_capital a) (is_capital b) l.0 in
    let n = both (is_digit w) (is_digit x && (is_digit y && is_digit z)) l.1 in
    let o = both (is_digit x) (is_digit y && is_digit z) n.1 in
    let p = both (is_digit y) (is_digit z) o.1 in
    record {
      a = a;
      b = b;
      w = w;
      x = x;
      y = y;
      z = z;
      is = refl;
      first = within 65 a 90 m.0;
      second = within 65 b 90 m.1;
      thousands = within 48 w 57 n.0;
      hundreds = within 48 x 57 o.0;
      tens = within 48 y 57 p.0;
      ones = within 48 z 57 p.1;
    }

-- the letters of a code and its digits as numbers
abbrev letters : {f : List ℕ} → Shaped f → ℕ
letters s = 26 * (s.a - 65) + (s.b - 65)

abbrev digits : {f : List ℕ} → Shaped f → ℕ
digits s = 10 * (10 * (10 * (s.w - 48) + (s.x - 48)) + (s.y - 48)) + (s.z - 48)

code_is : (f : List ℕ) (s : Shaped f) → shaped_code f ≡ letters s * 10000 + digits s + 1
unfolding shaped_code value_from
code_is f s = rw s.is (omega arith)

few : (f : List ℕ) (s : Shaped f) → (letters s < 676) × (digits s < 10000)
few f s =
    (omega (arith, s.first.1, s.second.1), omega (arith, s.thousands.1, s.hundreds.1, s.tens.1, s.ones.1))

-- the number of a code is none of "no pond"
pub code_bounds : (f : List ℕ) → is_shaped f ≡ true → (1 ≤ shaped_code f) × (shaped_code f ≤ most_codes)
code_bounds f e =
    let s = shaped f e in
    let c = code_is f s in
    let b = few f s in
    (omega arith, omega (arith, b.0, b.1))

-- a digit, or a letter, and what stands before it
digit_one : (q r m n : ℕ) → r < 10 → n < 10 → 10 * q + r ≡ 10 * m + n → (q ≡ m) × (r ≡ n)
digit_one q r m n h k e = (omega arith, omega arith)

letter_one : (q r m n : ℕ) → r < 26 → n < 26 → 26 * q + r ≡ 26 * m + n → (q ≡ m) × (r ≡ n)
letter_one q r m n h k e = (omega arith, omega arith)

parts_one : (m v n u : ℕ) → v < 10000 → u < 10000 → m * 10000 + v + 1 ≡ n * 10000 + u + 1 → (m ≡ n) × (v ≡ u)
parts_one m v n u h k e = (omega arith, omega arith)

small_digit : (c : ℕ) → c ≤ 57 → c - 48 < 10
small_digit c h = omega arith

small_letter : (c : ℕ) → c ≤ 90 → c - 65 < 26
small_letter c h = omega arith

past : (l c d : ℕ) → l ≤ c → l ≤ d → c - l ≡ d - l → c ≡ d
past l c d p q e = omega arith

-- two codes with one number are one code
pub code_one : (f g : List ℕ) → is_shaped f ≡ true → is_shaped g ≡ true → shaped_code f ≡ shaped_code g → f ≡ g
code_one f g p q e =
    let s = shaped f p in
    let t = shaped g q in
    let k = few f s in
    let l = few g t in
    let m = parts_one (letters s) (digits s) (letters t) (digits t) k.1 l.1 (sym (code_is f s) ∙ e ∙ code_is g t) in
    let ab = letter_one (s.a - 65) (s.b - 65) (t.a - 65) (t.b - 65) (small_letter _ s.second.1) (small_letter _ t.second.1) m.0 in
    let d0 = digit_one _ _ _ _ (small_digit _ s.ones.1) (small_digit _ t.ones.1) m.1 in
    let d1 = digit_one _ _ _ _ (small_digit _ s.tens.1) (small_digit _ t.tens.1) d0.0 in
    let d2 = digit_one _ _ _ _ (small_digit _ s.hundreds.1) (small_digit _ t.hundreds.1) d1.0 in
    let ea = past 65 _ _ s.first.0 t.first.0 ab.0 in
    let eb = past 65 _ _ s.second.0 t.second.0 ab.1 in
    let ew = past 48 _ _ s.thousands.0 t.thousands.0 d2.0 in
    let ex = past 48 _ _ s.hundreds.0 t.hundreds.0 d2.1 in
    let ey = past 48 _ _ s.tens.0 t.tens.0 d1.1 in
    let ez = past 48 _ _ s.ones.0 t.ones.0 d0.1 in
    s.is ∙ rw (ea, eb, ew, ex, ey, ez) (sym t.is)

between : (l c h : ℕ) → l ≤ c → c ≤ h → (leb l c && leb c h) ≡ true
between l c h p q = rw (le-leb l c p, le-leb c h q)

off : (l a : ℕ) → (l + a) - l ≡ a
off l a = omega arith

digits_back : (v : ℕ) → 10 * (10 * (10 * (10 * 0 + v / 10 / 10 / 10) + v / 10 / 10 % 10) + v / 10 % 10) + v % 10 ≡ v
digits_back v = omega arith

whole_back : (n : ℕ) → 1 ≤ n → (26 * ((n - 1) / 10000 / 26) + (n - 1) / 10000 % 26) * 10000 + (n - 1) % 10000 + 1 ≡ n
whole_back n h = omega arith

thousand : (m : ℕ) → m % 10000 / 10 / 10 / 10 ≤ 9
thousand m = omega arith

-- every number from 1 on, as far as there are codes, is some code's
pub code_text_lem : (n : ℕ) → 1 ≤ n → n ≤ most_codes → (is_shaped (code_text n) ≡ true) × (shaped_code (code_text n) ≡ n)
unfolding is_shaped shaped_code value_from
code_text_lem n p q =
    let m = n - 1 in (
      rw (
        between 65 (65 + m / 10000 / 26) 90 (omega arith) (omega arith),
        between 65 (65 + m / 10000 % 26) 90 (omega arith) (omega arith),
        between 48 (48 + m % 10000 / 10 / 10 / 10) 57 (omega arith) (omega (arith, thousand m)),
        between 48 (48 + m % 10000 / 10 / 10 % 10) 57 (omega arith) (omega arith),
        between 48 (48 + m % 10000 / 10 % 10) 57 (omega arith) (omega arith),
        between 48 (48 + m % 10000 % 10) 57 (omega arith) (omega arith),
      ),
      rw (
        off 65 (m / 10000 / 26),
        off 65 (m / 10000 % 26),
        off 48 (m % 10000 / 10 / 10 / 10),
        off 48 (m % 10000 / 10 / 10 % 10),
        off 48 (m % 10000 / 10 % 10),
        off 48 (m % 10000 % 10),
        digits_back (m % 10000),
      )
          (whole_back n p),
    )
