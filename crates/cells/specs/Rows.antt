-- A line of a sheet by its commas and what is kept of its columns: 41 to 43, or its record. No reader of the rules needs this page: `line_by_lem`
-- of office/proofs/Rows says that it is the line of the rules. Assumes nothing.
use Rattle.std.specs.Prelude.{Bool, false, ◌&&◌, not, List, Result, Ok, Err, ℕ, ◌%◌, eqb, get_or, if◌then◌else◌}
use Rattle.records.specs.declared.Record.{Record}
use Rattle.values.specs.Inside.{kind_in, point_in, number_in, value_in, code_in, pond_in}
use Rattle.values.specs.declared.Seen.{Seen}

-- zeros, as a place past the last of a list reads
abbrev pub zeros : Seen
zeros = record { count = 0; word = 0; minus = false; digits = false; size = 0 }

abbrev pub cell : ℕ → List Seen → Seen
cell i cells = get_or cells i zeros

unfoldable pub readable_in : List Seen → Bool
readable_in cells =
    not (eqb (kind_in (cell 0 cells)) 0)
    && ((point_in (cell 1 cells) && point_in (cell 2 cells)) && (number_in (cell 3 cells) && number_in (cell 4 cells)))

unfoldable pub record_in : List Seen → Record
record_in cells =
    record {
      kind = kind_in (cell 0 cells);
      a = (cell 1 cells).size % 256;
      b = (cell 2 cells).size % 256;
      first = value_in (cell 3 cells);
      second = value_in (cell 4 cells);
      code = pond_in (cell 5 cells);
    }

-- a line by its commas and what is kept of its columns
unfoldable pub line_by : ℕ → List Seen → Result Record ℕ
line_by commas cells =
    if not (eqb commas 5) then Err 41
    else (if not (readable_in cells) then Err 42
    else (if not (code_in (cell 5 cells)) then Err 43
    else Ok (record_in cells)))
