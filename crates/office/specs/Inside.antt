-- What the functions behind `feed` and `finish` answer: a line by what is kept of its columns, which `cells` states, and the plan that the records make.
-- A reader of the rules can leave this page out. Assumes nothing.
use Rattle.std.specs.Prelude.{List, Result, Ok, Err, [], ◌∷◌, ℕ, suc, ◌+◌, min, eqb, if◌then◌else◌}
use Rattle.records.specs.declared.Record.{Record}
use Rattle.plan.specs.Limits.{most_records}
use Rattle.plan.specs.ReplyNumbers.{check_of}
use Rattle.plan.specs.declared.Plan.{Plan}
use Rattle.fields.specs.Inside.{ends_line}
use Rattle.office.specs.Sheets.{Row, bad, good, refused}
use Rattle.office.specs.declared.Refused.{Refused}
pub use Rattle.cells.specs.Rows.{cell}
unfoldable pub use Rattle.cells.specs.Rows.{readable_in, record_in, line_by}

-- the first line of a text
unfoldable pub first_line : List ℕ → List ℕ
first_line [] = []
first_line (c ∷ s) = if ends_line (c ∷ s) then [] else c ∷ first_line s

-- the place behind its end, where the text begins at place i
unfoldable pub end_from : ℕ → List ℕ → ℕ
end_from i [] = i
end_from i (c ∷ s) = if ends_line (c ∷ s) then i + 2 else end_from (suc i) s

-- a line's record or its number
abbrev pub as_line : Row → Result Record ℕ
as_line (bad n) = Err n
as_line (good r) = Ok r

-- the end of the text: the records as a plan, one more than there is room for standing for any more
abbrev pub plan_by : ℕ → List Record → Plan
plan_by n rs = record { count = min n (most_records + 1); records = rs }

unfoldable pub judged : ℕ → List Record → Result Plan Refused
judged n rs =
    if eqb (check_of (plan_by n rs)).number 0 then Ok (plan_by n rs)
    else refused (check_of (plan_by n rs))
