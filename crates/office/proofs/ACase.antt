-- The worked cases of document 02, §1, as one table that the checker computes: each text with the number and the line that
-- importing it answers, 0 and 0 where it is accepted. A wrong row is refused with what the rules answer. Assumes nothing.
use mathlib.Core.Path.{◌≡◌, refl}
use mathlib.Core.Bool.{Bool, true, false, ◌&&◌}
use mathlib.Core.List.{List, [], ◌∷◌}
use Prim.Native.Nat.{ℕ}
use Prim.Native.String.{String}
use lib.Dec.{eqb}
use Rattle.records.specs.Records.{how_many, some, first_that}
use Rattle.plan.specs.ReplyNumbers.{check_with, first_bad_with, last_kind, number_for_with}
use Rattle.values.specs.Ascii.{ascii}
use Rattle.values.specs.Values.{same, kind_of, all_digits, value_from, is_negative, unsigned, is_shaped, shaped_code}
use Rattle.fields.specs.Quoting.{fields_from}
use Rattle.office.specs.Sheets.{begins_lf, before, pieces, without_rest, readable, record_of, row_of, read_as, import_rows, import_of}
use Rattle.std.specs.Prelude.{Result, Ok, Err}
use Rattle.plan.specs.declared.Plan.{Plan}
use Rattle.office.specs.declared.Refused.{Refused}

infix 70 ◌gives◌at◌
-- a text, a number and a line
data Case : Type 0 where
  ◌gives◌at◌ : String → ℕ → ℕ → Case

-- the row, unless it is right
unless_right : Bool → Case → List Case → List Case
unless_right true c cs = cs
unless_right false c cs = c ∷ cs

answered : String → ℕ → ℕ → Result Plan Refused → List Case → List Case
unfolding unless_right
answered t n l (Ok p) cs = unless_right (eqb 0 n && eqb 0 l) (t gives 0 at 0) cs
answered t n l (Err x) cs = unless_right (eqb x.number n && eqb x.line l) (t gives x.number at x.line) cs

-- the rows that are wrong, with what is right
wrong : List Case → List Case
wrong [] = []
wrong (t gives n at l ∷ cs) = answered t n l (import_of (ascii t)) (wrong cs)

-- lines: CR LF ends one, the last may lack it, a final one starts none; a CR or an LF alone is 40
lines : List Case
lines =
    "" gives 1 at 0
    ∷ "\r\n" gives 41 at 0
    ∷ "point,0,,,," gives 0 at 0
    ∷ "point,0,,,,\r\n" gives 0 at 0
    ∷ "point,0,,,,\r\n\r\n" gives 41 at 1
    ∷ "point,0,,,,\r\n\r\npoint,1,,,," gives 41 at 1
    ∷ "\r\npoint,0,,,," gives 41 at 0
    ∷ "point,0,,,,\r\npoint,1,,,,AA0000" gives 0 at 0
    ∷ "point,0,,,,\npoint,1,,,," gives 40 at 0
    ∷ "point,0,,,,\rpoint,1,,,," gives 40 at 0
    ∷ "point,0,,,,\r\r\n" gives 40 at 0
    ∷ "point,0,,,,\r" gives 40 at 0
    ∷ "point,0,,,,\n" gives 40 at 0
    ∷ "point,0,,,,\r\npoint,1,,,,\n" gives 40 at 1
    ∷ "point,0,,,,\n\r\n" gives 40 at 0
    ∷ "point,0,,,,\r\nlink" gives 41 at 1
    ∷ []

lines_right : wrong lines ≡ []
unfolding wrong answered unless_right lines import_rows read_as row_of readable record_of before pieces without_rest begins_lf fields_from same kind_of all_digits value_from is_negative unsigned is_shaped shaped_code check_with first_bad_with last_kind number_for_with how_many some first_that
lines_right = refl

-- quoting: fields with and without quotes, doubled quotes, and what breaks it
quoting : List Case
quoting =
    "\"point\",\"0\",\"\",\"\",\"\",\"\"" gives 0 at 0
    ∷ "\"point\",0,\"\",,,AZ9999\r\n" gives 0 at 0
    ∷ "po\"int,0,,,," gives 40 at 0
    ∷ "point\",0,,,," gives 40 at 0
    ∷ "\"point\"s,0,,,," gives 40 at 0
    ∷ "\"point\" ,0,,,," gives 40 at 0
    ∷ "point,0,,,,\"" gives 40 at 0
    ∷ "point,0,,,,\"AB1234" gives 40 at 0
    ∷ "point,0,,,,\"AB\r\n1234\"" gives 40 at 0
    ∷ "point,0,,,,\"AB\n1234\"" gives 40 at 0
    ∷ "point,0,,,,\"AB\r1234\"" gives 40 at 0
    ∷ "point,0,,,,\"\"\"\"" gives 43 at 0
    ∷ "\"po\"\"int\",0,,,," gives 42 at 0
    ∷ "\"\"\"\",0,,,," gives 42 at 0
    ∷ "point,\"0,\",,,," gives 42 at 0
    ∷ "point,0,,,,\"45,976\"" gives 43 at 0
    ∷ "\",\",\",\",\"" gives 40 at 0
    ∷ []

quoting_right : wrong quoting ≡ []
unfolding wrong answered unless_right quoting import_rows read_as row_of readable record_of before pieces without_rest begins_lf fields_from same kind_of all_digits value_from is_negative unsigned is_shaped shaped_code check_with first_bad_with last_kind number_for_with how_many some first_that
quoting_right = refl

-- the order within a line: 40, 41, 42, 43; and of lines
order : List Case
order =
    "a,b,\"" gives 40 at 0
    ∷ "a,b\n" gives 40 at 0
    ∷ "a\"" gives 40 at 0
    ∷ "a,b" gives 41 at 0
    ∷ "kind,x,,,,y," gives 41 at 0
    ∷ "kind,x,,,,y" gives 42 at 0
    ∷ "point,0,,,,y" gives 43 at 0
    ∷ "point,x,,,,y" gives 42 at 0
    ∷ ",,,,,y" gives 42 at 0
    ∷ "point,0,,,,\r\npoint,x,,,,\r\na\"" gives 42 at 1
    ∷ "point,0,,,,\r\npoint,1,,,,x\r\na\"" gives 43 at 1
    ∷ "point,9,,,,\r\npoint,x,,,," gives 42 at 1
    ∷ "point,9,,,," gives 8 at 0
    ∷ []

order_right : wrong order ≡ []
unfolding wrong answered unless_right order import_rows read_as row_of readable record_of before pieces without_rest begins_lf fields_from same kind_of all_digits value_from is_negative unsigned is_shaped shaped_code check_with first_bad_with last_kind number_for_with how_many some first_that
order_right = refl

-- kind words, lower case and exactly
words : List Case
words =
    "Point,0,,,," gives 42 at 0
    ∷ "POINT,0,,,," gives 42 at 0
    ∷ " point,0,,,," gives 42 at 0
    ∷ "points,0,,,," gives 42 at 0
    ∷ "poin,0,,,," gives 42 at 0
    ∷ "1,0,,,," gives 42 at 0
    ∷ ",0,,,," gives 42 at 0
    ∷ "\"\",0,,,," gives 42 at 0
    ∷ "ordinaryordinary,0,1,,," gives 42 at 0
    ∷ "\0point,0,,,," gives 42 at 0
    ∷ "point,0,,,,\r\npoint,1,,,,\r\nlink,0,1,1,2,\r\nordinary,0,1,-5,," gives 0 at 0
    ∷ "wait,0,1,5,," gives 8 at 0
    ∷ "point,0,,,,\r\npoint,1,,,,\r\npoint,2,,,,\r\nlink,0,1,1,2,\r\nwait,2,1,1,," gives 0 at 0
    ∷ []

words_right : wrong words ≡ []
unfolding wrong answered unless_right words import_rows read_as row_of readable record_of before pieces without_rest begins_lf fields_from same kind_of all_digits value_from is_negative unsigned is_shaped shaped_code check_with first_bad_with last_kind number_for_with how_many some first_that
words_right = refl

-- numbers: digits behind an optional minus, an empty one is 0, and what its place cannot hold is 42
numbers : List Case
numbers =
    "point,-0,,-0,00," gives 0 at 0
    ∷ "point,+0,,,," gives 42 at 0
    ∷ "point,-,,,," gives 42 at 0
    ∷ "point,--0,,,," gives 42 at 0
    ∷ "point,0-,,,," gives 42 at 0
    ∷ "point, 0,,,," gives 42 at 0
    ∷ "point,0 ,,,," gives 42 at 0
    ∷ "point,0x0,,,," gives 42 at 0
    ∷ "point,1e0,,,," gives 42 at 0
    ∷ "point,0.0,,,," gives 42 at 0
    ∷ "point,-1,,,," gives 42 at 0
    ∷ "point,256,,,," gives 42 at 0
    ∷ "point,255,,,," gives 8 at 0
    ∷ "point,0,256,,," gives 42 at 0
    ∷ "point,0,255,,," gives 7 at 0
    ∷ "point,00000000000000000000000,,,," gives 0 at 0
    ∷ "point,0,,4294967296,," gives 42 at 0
    ∷ "point,0,,2147483648,," gives 42 at 0
    ∷ "point,0,,2147483647,," gives 7 at 0
    ∷ "point,0,,-2147483648,," gives 7 at 0
    ∷ "point,0,,-2147483649,," gives 42 at 0
    ∷ "point,0,,,18446744073709551616," gives 42 at 0
    ∷ "point,0,,,-99999999999999999999999," gives 42 at 0
    ∷ "point,0,,,100_000," gives 42 at 0
    ∷ "point,0,,,\"100,000\"," gives 42 at 0
    ∷ []

numbers_right : wrong numbers ≡ []
unfolding wrong answered unless_right numbers import_rows read_as row_of readable record_of before pieces without_rest begins_lf fields_from same kind_of all_digits value_from is_negative unsigned is_shaped shaped_code check_with first_bad_with last_kind number_for_with how_many some first_that
numbers_right = refl

-- pond codes: two capital letters and four digits, or none
codes : List Case
codes =
    "point,0,,,,AA0000" gives 0 at 0
    ∷ "point,0,,,,ZZ9999" gives 0 at 0
    ∷ "point,0,,,,aa0000" gives 43 at 0
    ∷ "point,0,,,,Aa0000" gives 43 at 0
    ∷ "point,0,,,,AA00000" gives 43 at 0
    ∷ "point,0,,,,AA000" gives 43 at 0
    ∷ "point,0,,,,A00000" gives 43 at 0
    ∷ "point,0,,,,AAA000" gives 43 at 0
    ∷ "point,0,,,,AA 000" gives 43 at 0
    ∷ "point,0,,,, AA0000" gives 43 at 0
    ∷ "point,0,,,,AA0000 " gives 43 at 0
    ∷ "point,0,,,,000000" gives 43 at 0
    ∷ "point,0,,,,0" gives 43 at 0
    ∷ "point,0,,,,AA-001" gives 43 at 0
    ∷ "point,0,,,,äA0000" gives 43 at 0
    ∷ "point,0,,,,@A0000" gives 43 at 0
    ∷ "point,0,,,,[A0000" gives 43 at 0
    ∷ "point,0,,,,AA/000" gives 43 at 0
    ∷ "point,0,,,,AA:000" gives 43 at 0
    ∷ []

codes_right : wrong codes ≡ []
unfolding wrong answered unless_right codes import_rows read_as row_of readable record_of before pieces without_rest begins_lf fields_from same kind_of all_digits value_from is_negative unsigned is_shaped shaped_code check_with first_bad_with last_kind number_for_with how_many some first_that
codes_right = refl

-- anything that a spreadsheet has turned into a date
dates : List Case
dates =
    "point,0,,,,2026-11-15" gives 43 at 0
    ∷ "point,0,,,,15/11/2026" gives 43 at 0
    ∷ "point,0,,,,11/15/2026" gives 43 at 0
    ∷ "point,0,,,,15.11.2026" gives 43 at 0
    ∷ "point,0,,,,15/11/26" gives 43 at 0
    ∷ "point,0,,,,Nov-26" gives 43 at 0
    ∷ "point,0,,,,NOV26" gives 43 at 0
    ∷ "point,0,,,,1-Jan" gives 43 at 0
    ∷ "point,0,,,,01-Jan-26" gives 43 at 0
    ∷ "point,0,,,,Jan 1" gives 43 at 0
    ∷ "point,0,,,,15 November 2026" gives 43 at 0
    ∷ "point,0,,,,2026-11-15T00:00:00" gives 43 at 0
    ∷ "point,0,,,,20261115" gives 43 at 0
    ∷ "point,0,,,,45976" gives 43 at 0
    ∷ "point,0,,,,\"45,976\"" gives 43 at 0
    ∷ "point,0,,,,4.6E+04" gives 43 at 0
    ∷ []

dates_right : wrong dates ≡ []
unfolding wrong answered unless_right dates import_rows read_as row_of readable record_of before pieces without_rest begins_lf fields_from same kind_of all_digits value_from is_negative unsigned is_shaped shaped_code check_with first_bad_with last_kind number_for_with how_many some first_that
dates_right = refl
