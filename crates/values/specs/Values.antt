-- Document 02, §1: what a field says. "An empty field is 0, but an empty kind word is unreadable"; "numbers are decimal with an
-- optional minus; one that its place in the record can't hold is unreadable"; "a pond code is two capital letters and four
-- digits". Fields are bytes, ASCII codes. Assumes nothing.
use Rattle.std.specs.Prelude.{Bool, true, false, ◌&&◌, ◌||◌, not, List, [], ◌∷◌, ℕ, ◌+◌, ◌*◌, ◌-◌, ◌^◌, eqb, leb, ltb, ℤ, pos, neg_ℤ, length, get_or, drop, if◌then◌else◌}
use Rattle.std.specs.Int.Signed.{mag, le_z, lt_z}
use Rattle.values.specs.Ascii.{ascii}

abbrev pub is_empty : List ℕ → Bool
is_empty f = eqb (length f) 0

-- two fields have the same bytes
unfoldable pub same : List ℕ → List ℕ → Bool
same [] [] = true
same [] (d ∷ t) = false
same (c ∷ s) [] = false
same (c ∷ s) (d ∷ t) = eqb c d && same s t

abbrev pub point_word : List ℕ
point_word = ascii "point"

abbrev pub link_word : List ℕ
link_word = ascii "link"

abbrev pub ordinary_word : List ℕ
ordinary_word = ascii "ordinary"

abbrev pub wait_word : List ℕ
wait_word = ascii "wait"

-- the kind that a word names, as the plan file has it; 0 for a word that names none
unfoldable pub kind_of : List ℕ → ℕ
kind_of f =
    if same f point_word then 1
    else (if same f link_word then 2
    else (if same f ordinary_word then 3
    else (if same f wait_word then 4
    else 0)))

abbrev pub is_kind : List ℕ → Bool
is_kind f = not (eqb (kind_of f) 0)

-- 0 to 9
abbrev pub is_digit : ℕ → Bool
is_digit c = leb 48 c && leb c 57

-- A to Z
abbrev pub is_capital : ℕ → Bool
is_capital c = leb 65 c && leb c 90

unfoldable pub all_digits : List ℕ → Bool
all_digits [] = true
all_digits (c ∷ s) = is_digit c && all_digits s

-- the number that decimal digits stand for, n being what those before them do
unfoldable pub value_from : ℕ → List ℕ → ℕ
value_from n [] = n
value_from n (c ∷ s) = value_from (10 * n + (c - 48)) s

-- the field begins with a minus
abbrev pub is_minus : ℕ → Bool
is_minus c = eqb c 45

unfoldable pub is_negative : List ℕ → Bool
is_negative [] = false
is_negative (c ∷ s) = is_minus c

-- the field without its minus
unfoldable pub unsigned : List ℕ → List ℕ
unsigned [] = []
unsigned (c ∷ s) = if is_minus c then s else c ∷ s

abbrev pub size_of : List ℕ → ℕ
size_of f = value_from 0 (unsigned f)

-- empty, or one digit or more behind an optional minus
abbrev pub is_decimal : List ℕ → Bool
is_decimal f = is_empty f || (all_digits (unsigned f) && not (is_empty (unsigned f)))

abbrev pub number_of : List ℕ → ℤ
number_of f = if is_negative f then neg_ℤ (pos (size_of f)) else pos (size_of f)

-- a number of 32 signed bits
abbrev pub is_number : List ℕ → Bool
is_number f = is_decimal f && ltb (mag (number_of f)) (2 ^ 31)

-- a number of one byte
abbrev pub is_point : List ℕ → Bool
is_point f = is_decimal f && (le_z (pos 0) (number_of f) && lt_z (number_of f) (pos 256))

abbrev pub point_of : List ℕ → ℕ
point_of f = mag (number_of f)

-- two capital letters and four digits
unfoldable pub is_shaped : List ℕ → Bool
is_shaped f =
    eqb (length f) 6
    && ((is_capital (get_or f 0 0) && is_capital (get_or f 1 0))
    && (is_digit (get_or f 2 0) && (is_digit (get_or f 3 0) && (is_digit (get_or f 4 0) && is_digit (get_or f 5 0)))))

-- (26 × first + second) × 10,000 + digits + 1, with A as 0 and Z as 25
unfoldable pub shaped_code : List ℕ → ℕ
shaped_code f = (26 * (get_or f 0 0 - 65) + (get_or f 1 0 - 65)) * 10000 + value_from 0 (drop 2 f) + 1

-- empty, for no pond, or of the shape
abbrev pub is_code : List ℕ → Bool
is_code f = is_empty f || is_shaped f

abbrev pub code_of : List ℕ → ℕ
code_of f = if is_empty f then 0 else shaped_code f
