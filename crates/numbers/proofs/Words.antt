-- A number and its four bytes, a signed number and its bits: each goes over and comes back the same. Assumes only that the
-- numbers fit their types.
use mathlib.Core.Path.{◌≡◌, refl}
use mathlib.Core.Bool.{Bool, true, false}
use mathlib.Core.List.{List, [], ◌∷◌, ◌++◌}
use Prim.Native.Nat.{ℕ, zero, suc, ◌+◌, ◌*◌, ◌-◌, ◌/◌, ◌%◌, ◌^◌, ◌<◌}
use native.Mathlib.Omega.{arith}
use lib.Dec.{ltb}
use lib.IntN.{ℤ, pos, negsuc}
use lib.Signed.{mag}
use lib.ListN.{get_or}
use borrow.Author.Tests.{lt-ltb, le-ltb}
use Rattle.std.specs.Prelude.{if◌then◌else◌}
use Rattle.std.specs.Int.{to_le_bytes, w32}
use Rattle.numbers.specs.Fits.{All, IsByte}
use Rattle.numbers.specs.Numbers.{word_at, word_bytes, signed_of, bits_of}

-- std's four bytes of a number, the lowest first, are these.
pub le_bytes : (n : ℕ) → to_le_bytes w32 n ≡ word_bytes n
le_bytes n =
    let e : n / 65536 ≡ n / 256 / 256 = omega arith in
    let f : n / 16777216 ≡ n / 256 / 256 / 256 = omega arith in
    rw (e, f)

-- The four bytes of a number that fits thirty-two bits stand for that number.
pub word_back : (n : ℕ) → n < 2 ^ 32 → (rest : List ℕ) → word_at (word_bytes n ++ rest) 0 ≡ n
word_back n h rest = omega arith

low : (w v : ℕ) → IsByte w → (w + 256 * v) % 256 ≡ w
low w v h = omega arith

high : (w v : ℕ) → IsByte w → (w + 256 * v) / 256 ≡ v
high w v h = omega arith

-- Four bytes are the four bytes of the number that they stand for.
pub bytes_of_word : (w x y z : ℕ) → IsByte w → IsByte x → IsByte y → IsByte z
    → word_bytes (w + 256 * (x + 256 * (y + 256 * z))) ≡ w ∷ x ∷ y ∷ z ∷ []
bytes_of_word w x y z hw hx hy hz =
    let e : z % 256 ≡ z = omega arith in
    simp (low, high, e)

-- Reading the bits of a signed number of thirty-two bits gives the number.
pub signed_bits : (z : ℤ) → mag z < 2 ^ 31 → signed_of (bits_of z) ≡ z
signed_bits (pos n) h = rw (lt-ltb n (2 ^ 31) h)
signed_bits (negsuc n) h =
    let e : 2 ^ 32 - 1 - (2 ^ 32 - 1 - n) ≡ n = omega arith in
    rw (le-ltb (2 ^ 32 - 1 - n) (2 ^ 31) (omega arith), e)

-- The bits of the signed number that thirty-two bits read as are those bits.
pub bits_signed : (n : ℕ) → n < 2 ^ 32 → bits_of (signed_of n) ≡ n
bits_signed n h = go (ltb n (2 ^ 31))
  where
    go : (b : Bool) → bits_of (if b then pos n else negsuc (2 ^ 32 - 1 - n)) ≡ n
    go true = refl
    go false = omega arith

-- The bits of a signed number of thirty-two bits fit thirty-two bits.
pub bits_fit : (z : ℤ) → mag z < 2 ^ 31 → bits_of z < 2 ^ 32
bits_fit (pos n) h = omega arith
bits_fit (negsuc n) h = omega arith

-- each byte of s, also past its end, where 0 is read
pub byte : (s : List ℕ) → All IsByte s → (i : ℕ) → IsByte (get_or s i 0)
byte [] h i = omega arith
byte (x ∷ s) h zero = h.0
byte (x ∷ s) h (suc i) = byte s h.1 i

-- four bytes of s, read and written; and read as a signed number
module _ (s : List ℕ) (h : All IsByte s) (i : ℕ) where
  -- Four bytes stand for a number of thirty-two bits.
  pub word_fits : word_at s i < 2 ^ 32
  word_fits = omega (arith, byte s h i, byte s h (i + 1), byte s h (i + 2), byte s h (i + 3))

  pub four : word_bytes (word_at s i) ≡ get_or s i 0 ∷ get_or s (i + 1) 0 ∷ get_or s (i + 2) 0 ∷ get_or s (i + 3) 0 ∷ []
  four = bytes_of_word _ _ _ _ (byte s h i) (byte s h (i + 1)) (byte s h (i + 2)) (byte s h (i + 3))

  pub four_signed : word_bytes (bits_of (signed_of (word_at s i))) ≡ get_or s i 0 ∷ get_or s (i + 1) 0 ∷ get_or s (i + 2) 0 ∷ get_or s (i + 3) 0 ∷ []
  four_signed = rw (bits_signed (word_at s i) word_fits) four
