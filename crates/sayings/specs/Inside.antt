-- How the functions read a line's words, by what is kept of each. A reader of the rules can leave this page out. Assumes nothing.
use Rattle.std.specs.Prelude.{Bool, false, not, List, [], ◌∷◌, Result, Ok, Err, ℕ, ◌+◌, ◌%◌, eqb, length, get_or, drop, if◌then◌else◌}
use Rattle.values.specs.Inside.{below_in, number_in, value_in}
use Rattle.values.specs.declared.Seen.{Seen}
use Rattle.phrases.specs.Inside.{kind_by, point_or_none_in, point_or_none_by, set_in, set_by}
use Rattle.phrases.specs.declared.Word.{Word}
use Rattle.sayings.specs.Sayings.{a_kind, so_many_words, a_point, a_number, a_count, a_point_or_none, a_set, expected, first_of}
use Rattle.sayings.specs.Sayings.{point_record, link_record, ordinary_record, wait_record, Row, bad, good}
use Rattle.sayings.specs.declared.Expected.{Expected}
use Rattle.sayings.specs.declared.Expected.TheVariants.{Point, Number, Count, PointOrNone, Set}
use Rattle.sayings.specs.declared.Said.{Said}
use Rattle.sayings.specs.declared.Said.TheVariants.{Nothing, Plan, Mark, Event}

-- the numbers of what is expected of a word
abbrev pub number_of : Expected → ℕ
number_of Point = a_point
number_of Number = a_number
number_of Count = a_count
number_of PointOrNone = a_point_or_none
number_of Set = a_set

-- zeros, as a place past the last of a list reads
abbrev pub zeros : Seen
zeros = record { count = 0; word = 0; minus = false; digits = false; size = 0 }

abbrev pub cell : ℕ → List Word → Word
cell i cells = get_or cells i (record { seen = zeros; set = 0; good = false; point = zeros })

unfoldable pub holds_in : ℕ → Word → Bool
holds_in n w =
    if eqb n a_point then below_in 256 w.seen
    else (if eqb n a_number then number_in w.seen
    else (if eqb n a_count then below_in 4294967296 w.seen
    else (if eqb n a_point_or_none then point_or_none_in w.seen
    else set_in w)))

abbrev pub wrong_in : ℕ → Word → ℕ
wrong_in n w = if holds_in n w then 0 else n

-- what is expected at the first word that is wrong, 0 where none is
unfoldable pub first_wrong : List ℕ → List Word → ℕ
first_wrong [] ws = 0
first_wrong (n ∷ ns) [] = 0
first_wrong (n ∷ ns) (w ∷ ws) = first_of (wrong_in n w) (first_wrong ns ws)

abbrev pub unless_wrong : ℕ → Result (Unit {0}) ℕ
unless_wrong n = if eqb n 0 then Ok tt else Err n

abbrev pub point_in : Word → ℕ
point_in w = w.seen.size % 256

abbrev pub count_in : Word → ℕ
count_in w = w.seen.size % 4294967296

unfoldable pub said_in : ℕ → List Word → Said
said_in k cells =
    if eqb k 1 then Plan (point_record (point_in (cell 1 cells)) (count_in (cell 2 cells)))
    else (if eqb k 2 then Plan (link_record (point_in (cell 1 cells)) (value_in (cell 2 cells).seen) (value_in (cell 3 cells).seen) (point_in (cell 4 cells)))
    else (if eqb k 3 then Plan (ordinary_record (point_in (cell 1 cells)) (value_in (cell 2 cells).seen) (point_in (cell 3 cells)))
    else (if eqb k 4 then Plan (wait_record (point_in (cell 1 cells)) (point_in (cell 2 cells)) (value_in (cell 3 cells).seen))
    else (if eqb k 5 then Mark
    else Event (count_in (cell 1 cells)) (point_or_none_by (cell 2 cells).seen) (set_by (cell 3 cells))))))

-- a row as it is told
abbrev pub as_told : Row → Result Said ℕ
as_told (bad n) = Err n
as_told (good x) = Ok x

-- the row of a line by what is kept of its words, the first of which names a kind
unfoldable pub kind_row : ℕ → ℕ → List Word → Result Said ℕ
kind_row k n cells =
    if eqb k 0 then Err a_kind
    else (if not (eqb n (length (expected k) + 1)) then Err so_many_words
    else (if not (eqb (first_wrong (expected k) (drop 1 cells)) 0) then Err (first_wrong (expected k) (drop 1 cells))
    else Ok (said_in k cells)))

-- the row of a line of n words
unfoldable pub row_by : ℕ → List Word → Result Said ℕ
row_by n cells = if eqb n 0 then Ok Nothing else kind_row (kind_by (cell 0 cells).seen) n cells
