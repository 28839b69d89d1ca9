-- Numbers in four bytes, little-endian as document 01 has them ("Plan file"), and signed numbers. Assumes nothing.
use Rattle.std.specs.Prelude.{Bool, false, List, [], ◌∷◌, ℕ, ◌+◌, ◌*◌, ◌-◌, ◌/◌, ◌%◌, ◌^◌, eqb, ltb, ℤ, pos, negsuc, get_or, if◌then◌else◌}
use Rattle.numbers.specs.declared.Gap.{Gap}

-- the number that the four bytes of s from i on stand for, little-endian
abbrev pub word_at : List ℕ → ℕ → ℕ
word_at s i = get_or s i 0 + 256 * (get_or s (i + 1) 0 + 256 * (get_or s (i + 2) 0 + 256 * get_or s (i + 3) 0))

-- the four bytes of a number, little-endian
abbrev pub word_bytes : ℕ → List ℕ
word_bytes n = n % 256 ∷ n / 256 % 256 ∷ n / 256 / 256 % 256 ∷ n / 256 / 256 / 256 % 256 ∷ []

-- thirty-two bits read as a signed number: the upper half of them are the negative ones
abbrev pub signed_of : ℕ → ℤ
signed_of n = if ltb n (2 ^ 31) then pos n else negsuc (2 ^ 32 - 1 - n)

-- the thirty-two bits of a signed number
abbrev pub bits_of : ℤ → ℕ
bits_of (pos n) = n
bits_of (negsuc n) = 2 ^ 32 - 1 - n

abbrev pub is_nought : ℤ → Bool
is_nought (pos n) = eqb n 0
is_nought (negsuc n) = false

-- a signed number as what it adds and what it takes away: one of the two is 0
abbrev pub gap_of : ℤ → Gap
gap_of (pos n) = record { up = n; down = 0 }
gap_of (negsuc n) = record { up = 0; down = n + 1 }
