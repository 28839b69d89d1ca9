-- The few words more that the theorems on imported texts are said with. Definitions only. Assumes nothing.
use Rattle.std.specs.Prelude.{◌≡◌, true, Err, List, [], ℕ, ◌*◌, ◌≤◌, ◌<◌, length, get_or, take}
use Rattle.records.specs.Records.{blank}
use Rattle.records.specs.declared.Record.{Record}
use Rattle.plan.specs.Limits.{record_bytes}
use Rattle.plan.specs.APlan.{records_of}
use Rattle.plan.specs.PlanFile.{file_of}
use Rattle.plan.specs.ReplyNumbers.{accepted, check_of, read_of, write_of, written_of, number_in, plan_in}
use Rattle.plan.specs.declared.Plan.{Plan}
use Rattle.office.specs.declared.Refused.{Refused}
use Rattle.office.specs.Sheets.{columns, fields_of, lines_of, column, import_of}
use Rattle.office.specs.Sheets.{is_kind, kind_of, point_of, number_of, is_code, code_of}

-- line k of a text
abbrev pub line_of : ℕ → List ℕ → List ℕ
line_of k s = get_or (lines_of s) k []

-- line k of the text has six fields, which say what the record has, and the last is a pond code or empty
pub record Says (s : List ℕ) (k : ℕ) (r : Record) : Type 0 where
  pub fields : List (List ℕ)
  pub line : fields_of (line_of k s) ≡ columns fields
  pub six : length fields ≡ 6
  pub word : is_kind (column 0 fields) ≡ true
  pub kind : r.kind ≡ kind_of (column 0 fields)
  pub a : r.a ≡ point_of (column 1 fields)
  pub b : r.b ≡ point_of (column 2 fields)
  pub first : r.first ≡ number_of (column 3 fields)
  pub second : r.second ≡ number_of (column 4 fields)
  pub pond : is_code (column 5 fields) ≡ true
  pub code : r.code ≡ code_of (column 5 fields)

-- the plan has a record for each line of the text, in order, and is one that the file reader accepts: its file reads as it, and so
-- does what writing it leaves in any buffer
pub record Imports (s : List ℕ) (p : Plan) : Type 0 where
  pub count : p.count ≡ length (lines_of s)
  pub says : (k : ℕ) → k < length (lines_of s) → Says s k (get_or (records_of p) k blank)
  pub checked : check_of p ≡ accepted
  pub number : number_in (read_of (file_of p)) ≡ 0
  pub reads : plan_in (read_of (file_of p)) ≡ p
  pub written : (out : List ℕ) → (write_of p out).number ≡ 0 → plan_in (read_of (take (record_bytes * p.count) (written_of p out))) ≡ p

-- the import stops at line k or before it: a number of a line, and no plan
pub record StopsBy (s : List ℕ) (k : ℕ) : Type 0 where
  pub refusal : Refused
  pub refuses : import_of s ≡ Err refusal
  pub from : 40 ≤ refusal.number
  pub to : refusal.number ≤ 43
  pub line : refusal.line ≤ k
