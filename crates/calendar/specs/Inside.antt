-- What the inner functions compute, by the pond codes of points. A reader of the rules can leave this page out: the open functions'
-- contracts do not cite it. Assumes nothing.
use Rattle.std.specs.Prelude.{◌≡◌, Result, List, ◌++◌, map, ℕ, ◌+◌, pos, length}
use Rattle.plan.specs.Limits.{most_points, most_records}
use Rattle.plan.specs.APlan.{records_of}
use Rattle.plan.specs.ReplyNumbers.{check_of}
use Rattle.plan.specs.declared.Plan.{Plan}
use Rattle.records.specs.declared.Record.{Record}
use Rattle.codes.specs.Ponds.{ForEach, pond_at}
use Rattle.links.specs.Inside.{LinksOf}
use Rattle.links.specs.declared.Links.{Links}
use Rattle.board.specs.declared.Board.{Board}
use Rattle.dates.specs.declared.Stamp.{Stamp}
use Rattle.calendar.specs.Calendars.{events_of, heading, ending, events_length, calendar_of, written_of}
use Rattle.plan.specs.declared.Refusal.{Refusal}

-- a record with a pond code and nothing else
abbrev pub coded_one : ℕ → Record
coded_one c = record { kind = 0; a = 0; b = 0; first = pos 0; second = pos 0; code = c }

-- records with these pond codes: the text of a calendar asks no more of a plan's records
abbrev pub coded : List ℕ → List Record
coded codes = map coded_one codes

-- the whole text, of n points with these pond codes
unfoldable pub text_by : List ℕ → ℕ → Board → Stamp → List ℕ
text_by codes n b origin = heading ++ events_of (coded codes) b origin n ++ ending

-- how long that is
unfoldable pub length_by : List ℕ → ℕ → ℕ
length_by codes n = length heading + events_length (coded codes) n + length ending

-- p is an accepted plan with these links and pond codes
pub record SheetOf (p : Plan) (l : Links) (codes : List ℕ) : Type 0 where
  pub ok : (check_of p).number ≡ 0
  pub full : length p.records ≡ most_records
  pub links : LinksOf (records_of p) l
  pub ponds : ForEach (pond_at p) 0 most_points codes

-- the answer r, and the buffer `after` that was `out`, are those of every accepted plan with these links and pond codes
pub record WrittenBy (l : Links) (codes : List ℕ) (b : Board) (origin : Stamp) (out : List ℕ) (r : Result ℕ Refusal) (after : List ℕ) : Type 0 where
  pub reply : (p : Plan) → SheetOf p l codes → r ≡ calendar_of p b origin out
  pub bytes : (p : Plan) → SheetOf p l codes → after ≡ written_of p b origin out
