-- A text that comes in pieces, cut anywhere, also between a CR and its LF: what is known of it so far, with a byte more, and with a last
-- line that lacks its end. What that answers is office/specs/Feeding, and that it is `import_of` of the pieces together a theorem
-- (office/proofs/Fed). Assumes nothing.
use Rattle.std.specs.Prelude.{Bool, ◌&&◌, ◌||◌, not, List, Result, Ok, Err, [], ◌∷◌, ◌++◌, ℕ, ◌+◌, ◌%◌, min, eqb, set, replicate, if◌then◌else◌}
use Rattle.records.specs.Limits.{most_records}
use Rattle.records.specs.Records.{blank}
use Rattle.records.specs.declared.Record.{Record}
use Rattle.values.specs.Inside.{fresh}
use Rattle.values.specs.declared.Seen.{Seen}
use Rattle.fields.specs.Inside.{beginning, is_at_begin, may_end, step_of}
use Rattle.fields.specs.declared.Step.{Step}
use Rattle.fields.specs.declared.Step.TheVariants.{On, Comma, Ends, Broken}
use Rattle.office_text.specs.declared.Feeding.{Feeding}
unfoldable pub use Rattle.cells.specs.Rows.{line_by}

-- where a line begins, behind so many others
abbrev pub line_begins : ℕ → List Record → Feeding
line_begins n rs = record { number = 0; lines = n; records = rs; commas = 0; cells = replicate 6 fresh; spot = beginning }

-- nothing of a text yet
abbrev pub begun : Feeding
begun = line_begins 0 (replicate most_records blank)

-- a bad line stops it, and it stays so
abbrev pub stopped : ℕ → ℕ → Feeding
stopped number line =
    record { number = number; lines = line; records = replicate most_records blank; commas = 0; cells = replicate 6 fresh; spot = beginning }

-- lines are counted as far as 64 bits go
abbrev pub counted : ℕ → ℕ
counted n = min (n + 1) 18446744073709551615

-- a column more; past the sixth it takes the room of another, since the line is then refused
abbrev pub cells_with : ℕ → List Seen → Seen → List Seen
cells_with commas cells s = set cells (commas % 6) s

-- with a whole line
abbrev pub lined : ℕ → List Record → Result Record ℕ → Feeding
lined n rs (Ok r) = line_begins (counted n) (set rs (n % most_records) r)
lined n rs (Err m) = stopped m n

-- with a step more
abbrev pub stepped : Feeding → Step → Feeding
stepped f (On s) = record { number = 0; lines = f.lines; records = f.records; commas = f.commas; cells = f.cells; spot = s }
stepped f Comma =
    record {
      number = 0;
      lines = f.lines;
      records = f.records;
      commas = min (f.commas + 1) 6;
      cells = cells_with f.commas f.cells f.spot.seen;
      spot = beginning;
    }
stepped f Ends = lined f.lines f.records (line_by f.commas (cells_with f.commas f.cells f.spot.seen))
stepped f Broken = stopped 40 f.lines

-- with a byte more
unfoldable pub fed_byte : Feeding → ℕ → Feeding
fed_byte f c = if eqb f.number 0 then stepped f (step_of f.spot c) else f

-- with a piece more
unfoldable pub fed_of : Feeding → List ℕ → Feeding
fed_of f [] = f
fed_of f (c ∷ s) = fed_of (fed_byte f c) s

-- with the pieces, one after the other
unfoldable pub fed_all : Feeding → List (List ℕ) → Feeding
fed_all f [] = f
fed_all f (s ∷ ss) = fed_all (fed_of f s) ss

-- the pieces together
unfoldable pub joined_text : List (List ℕ) → List ℕ
joined_text [] = []
joined_text (s ∷ ss) = s ++ joined_text ss

-- the text has ended: what stands behind the last CR LF is a line only where it is something
abbrev pub is_done : Feeding → Bool
is_done f = not (eqb f.number 0) || (is_at_begin f.spot && eqb f.commas 0)

unfoldable pub last_of : Feeding → Feeding
last_of f =
    if is_done f then f
    else (if may_end f.spot then lined f.lines f.records (line_by f.commas (cells_with f.commas f.cells f.spot.seen))
    else stopped 40 f.lines)
