-- How the functions behind `pack` go over the text, line by line. A reader of the rules can leave this page out: the open function's
-- contract does not cite it. Assumes nothing.
use Rattle.std.specs.Prelude.{List, Result, Ok, ℕ, length, replicate}
use Rattle.std.proofs.Math.Seq.{paste}
use Rattle.records.specs.Limits.{record_bytes}
use Rattle.phrases.specs.Inside.{line_end, first_line}
use Rattle.sayings.specs.Inside.{as_told}
use Rattle.sayings.specs.declared.Said.{Said}
use Rattle.sayings.specs.declared.Said.TheVariants.{Nothing, Plan, Mark, Event}
use Rattle.listing.specs.Listing.{line_row, Outcome, refused, listed, refusal, bytes_said}
use Rattle.listing.specs.declared.Line.{Line}
use Rattle.listing.specs.declared.Refused.{Refused}

-- the first line of a text that begins at place i
abbrev pub line_at : ℕ → List ℕ → Line
line_at i s = record { said = as_told (line_row (first_line s)); next = line_end i s }

-- how many records a line makes
abbrev pub one_if : Said → ℕ
one_if Nothing = 0
one_if (Plan r) = 1
one_if Mark = 1
one_if (Event m p s) = 1

-- the text gone over: what was expected at the first bad line, or how many records there are
abbrev pub scanned : Outcome → Result ℕ Refused
scanned (refused k n) = refusal k n
scanned (listed xs) = Ok (length xs)

-- the sixteen bytes of a line's record; zeros where it makes none
abbrev pub full_bytes : Said → List ℕ
full_bytes Nothing = replicate record_bytes 0
full_bytes (Plan r) = bytes_said (Plan r)
full_bytes Mark = bytes_said Mark
full_bytes (Event m p s) = bytes_said (Event m p s)

-- the buffer with a line's record in it
abbrev pub put_of : List ℕ → ℕ → Said → List ℕ
put_of out at Nothing = out
put_of out at (Plan r) = paste out at (full_bytes (Plan r)) record_bytes
put_of out at Mark = paste out at (full_bytes Mark) record_bytes
put_of out at (Event m p s) = paste out at (full_bytes (Event m p s)) record_bytes
