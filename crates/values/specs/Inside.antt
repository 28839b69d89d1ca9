-- What the functions keep of a field while its bytes go by, and what they answer by it. A reader of the rules can leave this page
-- out: the open functions' contracts do not cite it. Assumes nothing.
use Rattle.std.specs.Prelude.{Bool, true, false, ◌&&◌, ◌||◌, not, List, [], ◌∷◌, ℕ, zero, suc, ◌+◌, ◌*◌, ◌-◌, ◌/◌, ◌%◌, ◌^◌, min, eqb, ltb, ℤ, if◌then◌else◌}
use Rattle.numbers.specs.Numbers.{signed_of}
use Rattle.values.specs.Values.{is_digit, is_capital, is_minus}
use Rattle.values.specs.declared.Seen.{Seen}

-- nothing of a field yet
abbrev pub fresh : Seen
fresh = record { count = 0; word = 0; minus = false; digits = true; size = 0 }

-- a minus at the field's front
abbrev pub leads : Seen → ℕ → Bool
leads s c = eqb s.count 0 && is_minus c

-- with a byte more
unfoldable pub with : Seen → ℕ → Seen
with s c =
    record {
      count = min (s.count + 1) 9;
      word = s.word % 2 ^ 56 * 256 + c;
      minus = s.minus || leads s c;
      digits = s.digits && (is_digit c || leads s c);
      size = 10 * min s.size (2 ^ 32) + (c - 48);
    }

-- what is known of a field of the bytes, from what was known before them
unfoldable pub with_all : Seen → List ℕ → Seen
with_all s [] = s
with_all s (c ∷ f) = with_all (with s c) f

-- the answers by what is known: a word's length and its bytes as a number to the base 256
abbrev pub word_in : ℕ → ℕ → Seen → Bool
word_in n w s = eqb s.count n && eqb s.word w

-- a number below n
abbrev pub below_in : ℕ → Seen → Bool
below_in n s = not (eqb s.count 0) && ((s.digits && not s.minus) && ltb s.size n)

unfoldable pub kind_in : Seen → ℕ
kind_in s =
    if word_in 5 482905517684 s then 1
    else (if word_in 4 1818848875 s then 2
    else (if word_in 8 8030591489541239417 s then 3
    else (if word_in 4 2002872692 s then 4
    else 0)))

abbrev pub empty_in : Seen → Bool
empty_in s = eqb s.count 0

-- no bytes, or digits behind an optional minus that does not stand alone
abbrev pub decimal_in : Seen → Bool
decimal_in s = empty_in s || (s.digits && not (eqb s.count 1 && s.minus))

unfoldable pub point_in : Seen → Bool
point_in s = decimal_in s && (ltb s.size 256 && (not s.minus || eqb s.size 0))

unfoldable pub number_in : Seen → Bool
number_in s = decimal_in s && (ltb s.size (2 ^ 31) || (s.minus && eqb s.size (2 ^ 31)))

-- the number, where it fits
unfoldable pub value_in : Seen → ℤ
value_in s =
    if s.minus && not (eqb (s.size % 2 ^ 32) 0) then signed_of (4294967295 - (s.size % 2 ^ 32 - 1))
    else signed_of (s.size % 2 ^ 32)

-- the byte of a word that n bytes follow
abbrev pub byte_in : ℕ → ℕ → ℕ
byte_in w zero = w % 256
byte_in w (suc n) = byte_in (w / 256) n

unfoldable pub shaped_in : Seen → Bool
shaped_in s =
    eqb s.count 6
    && ((is_capital (byte_in s.word 5) && is_capital (byte_in s.word 4))
    && (is_digit (byte_in s.word 3) && (is_digit (byte_in s.word 2) && (is_digit (byte_in s.word 1) && is_digit (byte_in s.word 0)))))

abbrev pub code_in : Seen → Bool
code_in s = empty_in s || shaped_in s

-- the six bytes as a pond code, where they are of the shape
unfoldable pub pond_in : Seen → ℕ
pond_in s =
    if empty_in s then 0
    else (26 * (byte_in s.word 5 - 65) + (byte_in s.word 4 - 65)) * 10000
    + (10 * (10 * (10 * (byte_in s.word 3 - 48) + (byte_in s.word 2 - 48)) + (byte_in s.word 1 - 48)) + (byte_in s.word 0 - 48))
    + 1
