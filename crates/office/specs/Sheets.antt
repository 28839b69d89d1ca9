-- Document 02, §1: what importing a text answers. A line's fields are those of RFC 4180 (`fields`), and what a field says is handed
-- on from `values`. Number 0 is no number of the document: it says that nothing is refused. Assumes nothing.
use Rattle.std.specs.Prelude.{Bool, false, ◌&&◌, not, List, Result, Ok, Err, [], ◌∷◌, ◌++◌, map, ℕ, eqb, length, drop, get_or, if◌then◌else◌}
use Rattle.records.specs.declared.Record.{Record}
use Rattle.plan.specs.APlan.{plan_of}
use Rattle.plan.specs.ReplyNumbers.{refusal, check_of}
use Rattle.plan.specs.declared.Plan.{Plan}
use Rattle.plan.specs.declared.Refusal.{Refusal}
use Rattle.office.specs.declared.Refused.{Refused}
pub use Rattle.values.specs.Values.{is_kind, is_point, point_of, is_number, number_of, is_code, code_of, is_empty}
unfoldable pub use Rattle.values.specs.Values.{kind_of, is_shaped, shaped_code}
pub use Rattle.fields.specs.Quoting.{Columns, broken, columns, cr, lf, fields_of}
unfoldable pub use Rattle.fields.specs.Quoting.{fields_from}

-- the bytes begin with an LF
unfoldable pub begins_lf : List ℕ → Bool
begins_lf [] = false
begins_lf (c ∷ s) = eqb c lf

-- a byte in front of a text that was cut: with the LF behind it a CR is a line's end
unfoldable pub before : ℕ → List (List ℕ) → List (List ℕ)
before c [] = (c ∷ []) ∷ []
before c (l ∷ ls) =
    if eqb c cr && begins_lf l then [] ∷ drop 1 l ∷ ls
    else (c ∷ l) ∷ ls

-- "lines end in CR LF": the text cut at each
unfoldable pub pieces : List ℕ → List (List ℕ)
pieces [] = [] ∷ []
pieces (c ∷ s) = before c (pieces s)

-- ".. which the last may lack": what stands behind the last CR LF is a line only where it is something
unfoldable pub without_rest : List (List ℕ) → List (List ℕ)
without_rest [] = []
without_rest (l ∷ []) = if is_empty l then [] else l ∷ []
without_rest (l ∷ m ∷ ls) = l ∷ without_rest (m ∷ ls)

abbrev pub lines_of : List ℕ → List (List ℕ)
lines_of s = without_rest (pieces s)

-- a line is a record, or it is bad and has a number
pub data Row : Type 0 where
  bad : ℕ → Row
  good : Record → Row

abbrev pub column : ℕ → List (List ℕ) → List ℕ
column i fs = get_or fs i []

-- "six columns: a kind word, two points, two numbers, pond code": the first five can be read
unfoldable pub readable : List (List ℕ) → Bool
readable fs =
    is_kind (column 0 fs)
    && ((is_point (column 1 fs) && is_point (column 2 fs)) && (is_number (column 3 fs) && is_number (column 4 fs)))

-- the record that six columns make
unfoldable pub record_of : List (List ℕ) → Record
record_of fs =
    record {
      kind = kind_of (column 0 fs);
      a = point_of (column 1 fs);
      b = point_of (column 2 fs);
      first = number_of (column 3 fs);
      second = number_of (column 4 fs);
      code = code_of (column 5 fs);
    }

-- 40: quoting broken; 41: wrong column count; 42: number or word unreadable; 43: pond code of another shape
unfoldable pub row_of : Columns → Row
row_of broken = bad 40
row_of (columns fs) =
    if not (eqb (length fs) 6) then bad 41
    else (if not (readable fs) then bad 42
    else (if not (is_code (column 5 fs)) then bad 43
    else good (record_of fs)))

-- a line's record or number
abbrev pub line_row : List ℕ → Row
line_row l = row_of (fields_of l)

abbrev pub rows_of : List (List ℕ) → List Row
rows_of ls = map line_row ls

-- a refusal hands back no plan
abbrev pub refused : Refusal → Result Plan Refused
refused x = Err (record { number = x.number; line = x.place })

abbrev pub taken : List Record → Result Plan Refused
taken rs = Ok (plan_of rs)

-- "then the reader's own numbers": what reading the records would give
unfoldable pub read_as : List Record → Result Plan Refused
read_as rs =
    if eqb (check_of (plan_of rs)).number 0 then taken rs
    else refused (check_of (plan_of rs))

-- the rows in order behind the records rs: "first bad line first", its number and its line, counted from 0
unfoldable pub import_rows : List Record → List Row → Result Plan Refused
import_rows rs [] = read_as rs
import_rows rs (bad n ∷ rows) = refused (refusal n (length rs))
import_rows rs (good r ∷ rows) = import_rows (rs ++ (r ∷ [])) rows

-- what importing a text answers
abbrev pub import_of : List ℕ → Result Plan Refused
import_of s = import_rows [] (rows_of (lines_of s))
