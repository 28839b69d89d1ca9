-- What a line of a listing says. A line is one of
--   point NUMBER POND | link A X Y C | ordinary X D Y | wait V C W | mark | event MINUTE POINT SET
-- or it has no words; else it is bad, and a number says what was expected. What a word says is handed on from `phrases` and
-- `values`. Assumes nothing.
use Rattle.std.specs.Prelude.{Bool, not, List, [], ◌∷◌, ◌++◌, ℕ, ◌^◌, eqb, ℤ, pos, length, get_or, replicate, if◌then◌else◌}
use Rattle.numbers.specs.Numbers.{word_bytes}
use Rattle.records.specs.Limits.{record_bytes}
use Rattle.records.specs.Bytes.{bytes_of}
use Rattle.records.specs.declared.Record.{Record}
use Rattle.sayings.specs.declared.Said.{Said}
use Rattle.sayings.specs.declared.Said.TheVariants.{Nothing, Plan, Mark, Event}
pub use Rattle.values.specs.Values.{is_number, number_of}
pub use Rattle.phrases.specs.Phrases.{words_of, is_below, value_of, is_point_or_none, point_or_none, is_set, set_of}
unfoldable pub use Rattle.phrases.specs.Phrases.{kind_of}

-- ---- what was expected, by number

-- one of the six kind words
abbrev pub a_kind : ℕ
a_kind = 1

-- as many words as the kind has
abbrev pub so_many_words : ℕ
so_many_words = 2

-- a point of a record, 0 to 255
abbrev pub a_point : ℕ
a_point = 3

-- a number of 32 bits, with a minus in front or none
abbrev pub a_number : ℕ
a_number = 4

-- a number from 0 to 4294967295: a pond, a minute
abbrev pub a_count : ℕ
a_count = 5

-- `none`, or a point of an event, 0 to 254
abbrev pub a_point_or_none : ℕ
a_point_or_none = 6

-- `none`, or points below 32 with single commas between them, no point twice
abbrev pub a_set : ℕ
a_set = 7

-- ---- a line

-- what the words behind a kind word are
unfoldable pub expected : ℕ → List ℕ
expected k =
    if eqb k 1 then a_point ∷ a_count ∷ []
    else (if eqb k 2 then a_point ∷ a_number ∷ a_number ∷ a_point ∷ []
    else (if eqb k 3 then a_point ∷ a_number ∷ a_point ∷ []
    else (if eqb k 4 then a_point ∷ a_point ∷ a_number ∷ []
    else (if eqb k 5 then []
    else a_count ∷ a_point_or_none ∷ a_set ∷ []))))

-- the word is what is expected: "what its place cannot hold is refused"
unfoldable pub holds : ℕ → List ℕ → Bool
holds n f =
    if eqb n a_point then is_below 256 f
    else (if eqb n a_number then is_number f
    else (if eqb n a_count then is_below (2 ^ 32) f
    else (if eqb n a_point_or_none then is_point_or_none f
    else is_set f)))

-- 0 where it is, else the number of what is expected
abbrev pub wrong_of : ℕ → List ℕ → ℕ
wrong_of n f = if holds n f then 0 else n

-- the first of two numbers that is not 0
abbrev pub first_of : ℕ → ℕ → ℕ
first_of m n = if eqb m 0 then n else m

-- "the words from left to right": what is expected at the first that is wrong, 0 where none is
unfoldable pub first_wrong : List ℕ → List (List ℕ) → ℕ
first_wrong [] fs = 0
first_wrong (n ∷ ns) [] = 0
first_wrong (n ∷ ns) (f ∷ fs) = first_of (wrong_of n f) (first_wrong ns fs)

-- the records that the kinds make; what a kind does not say is zero
abbrev pub point_record : ℕ → ℕ → Record
point_record number pond = record { kind = 1; a = number; b = 0; first = pos 0; second = pos 0; code = pond }

abbrev pub link_record : ℕ → ℤ → ℤ → ℕ → Record
link_record a x y c = record { kind = 2; a = a; b = c; first = x; second = y; code = 0 }

abbrev pub ordinary_record : ℕ → ℤ → ℕ → Record
ordinary_record x d y = record { kind = 3; a = x; b = y; first = d; second = pos 0; code = 0 }

abbrev pub wait_record : ℕ → ℕ → ℤ → Record
wait_record v c w = record { kind = 4; a = v; b = c; first = w; second = pos 0; code = 0 }

-- word i behind the kind word
abbrev pub word : ℕ → List (List ℕ) → List ℕ
word i fs = get_or fs i []

unfoldable pub said_by : ℕ → List (List ℕ) → Said
said_by k fs =
    if eqb k 1 then Plan (point_record (value_of (word 0 fs)) (value_of (word 1 fs)))
    else (if eqb k 2 then Plan (link_record (value_of (word 0 fs)) (number_of (word 1 fs)) (number_of (word 2 fs)) (value_of (word 3 fs)))
    else (if eqb k 3 then Plan (ordinary_record (value_of (word 0 fs)) (number_of (word 1 fs)) (value_of (word 2 fs)))
    else (if eqb k 4 then Plan (wait_record (value_of (word 0 fs)) (value_of (word 1 fs)) (number_of (word 2 fs)))
    else (if eqb k 5 then Mark
    else Event (value_of (word 0 fs)) (point_or_none (word 1 fs)) (set_of (word 2 fs))))))

-- a line says something, or it is bad: what was expected
pub data Row : Type 0 where
  bad : ℕ → Row
  good : Said → Row

abbrev pub unless_wrong : ℕ → Said → Row
unless_wrong n x = if eqb n 0 then good x else bad n

-- "within a line: the kind word first, then how many words, then the words"
unfoldable pub row_of : List (List ℕ) → Row
row_of [] = good Nothing
row_of (f ∷ fs) =
    if eqb (kind_of f) 0 then bad a_kind
    else (if not (eqb (length fs) (length (expected (kind_of f)))) then bad so_many_words
    else unless_wrong (first_wrong (expected (kind_of f)) fs) (said_by (kind_of f) fs))

abbrev pub line_row : List ℕ → Row
line_row l = row_of (words_of l)

-- ---- bytes

-- the mark is sixteen bytes 255; an event is its minute, its point (255 for none), its set and zero, four bytes each
abbrev pub bytes_said : Said → List ℕ
bytes_said Nothing = []
bytes_said (Plan r) = bytes_of r
bytes_said Mark = replicate record_bytes 255
bytes_said (Event m p s) = word_bytes m ++ (word_bytes p ++ (word_bytes s ++ word_bytes 0))
