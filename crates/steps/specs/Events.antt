-- The event of a board by the rules, where the foreman takes the aim. Assumes nothing.
use Rattle.std.specs.Prelude.{◌≡◌, ◌&&◌, List, ℕ, ◌+◌, ◌≤◌, eqb, length}
use Rattle.points.specs.Sets.{from, passing, first_or}
use Rattle.plan.specs.Limits.{most_points, most_records}
use Rattle.plan.specs.APlan.{link_to, records_of}
use Rattle.plan.specs.ReplyNumbers.{check_of}
use Rattle.plan.specs.declared.Plan.{Plan}
use Rattle.records.specs.declared.Record.{Record}
use Rattle.board.specs.Boards.{minute}
use Rattle.board.specs.Windows.{is_open, low}
use Rattle.board.specs.Events.{no_point}
use Rattle.board.specs.declared.Board.{Board}
use Rattle.events.specs.declared.Event.{Event}
use Rattle.rows.specs.Sheet.{by}
use Rattle.rows.specs.Layout.{LaidOut}
use Rattle.promise.specs.Plays.{least_of, comes_first}
use Rattle.promise.specs.Plays as plays

-- the least Low of the open points, past every minute where nothing is open
abbrev pub least_open : List Record → Board → ℕ
least_open rs b = least_of (is_open rs b) (low rs b) (from 0 most_points)

-- the first open point that has it, none where nothing is open
abbrev pub first_open : List Record → Board → ℕ
first_open rs b = first_or no_point (passing (λ (q : ℕ). is_open rs b q && eqb (low rs b q) (least_open rs b)) (from 0 most_points))

-- the minute at which the link that ends at C ends, where it is running
abbrev pub end_at : List Record → Board → List ℕ → ℕ → ℕ
end_at rs b w C = minute b (link_to rs C).a + by w C

-- an event's three numbers
abbrev pub made : plays.Event → Event
made e = record { minute = e.minute; point = e.point; set = e.set }

-- the event of the board b at the durations w, where the foreman takes the first open point of the least Low
abbrev pub event_of : List Record → Board → List ℕ → Event
event_of rs b w = made (comes_first rs b (end_at rs b w) (least_open rs b) (first_open rs b))

-- the sheet s has the m records of the plan p
pub record SheetOf (p : Plan) (s : List ℕ) (m : ℕ) : Type 0 where
  pub accepted : (check_of p).number ≡ 0
  pub laid : LaidOut (records_of p) s
  pub rows : m ≡ length (records_of p)
  pub few : m ≤ most_records
