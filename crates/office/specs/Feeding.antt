-- A text that comes in pieces: what it answers where it ends, by what is known of it, which `office_text` states and this page hands on.
-- That this is `import_of` of the pieces together is a theorem (proofs/Fed). Assumes nothing.
use Rattle.std.specs.Prelude.{Result, eqb, if◌then◌else◌}
use Rattle.plan.specs.ReplyNumbers.{refusal}
use Rattle.office.specs.Sheets.{refused}
use Rattle.office.specs.Inside.{judged}
use Rattle.plan.specs.declared.Plan.{Plan}
use Rattle.office.specs.declared.Refused.{Refused}
use Rattle.office_text.specs.declared.Feeding.{Feeding}
pub use Rattle.office_text.specs.Feeding.{line_begins, begun, stopped, counted, cells_with, lined, stepped, is_done}
unfoldable pub use Rattle.office_text.specs.Feeding.{fed_byte, fed_of, fed_all, joined_text, last_of}

unfoldable pub answered : Feeding → Result Plan Refused
answered f =
    if eqb f.number 0 then judged f.lines f.records
    else refused (refusal f.number f.lines)

abbrev pub finished_of : Feeding → Result Plan Refused
finished_of f = answered (last_of f)
