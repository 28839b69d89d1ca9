-- Document 02, §5: what is kept is what the whole plan gives. rs are the plan's records; then the clock, the set of done points, the
-- minute and the event's number of each, and the number of the last event; `kept` is the room. Assumes nothing.
use Rattle.std.specs.Prelude.{◌≡◌, List, ℕ, ◌+◌, ◌<◌, length, get_or}
use Rattle.plan.specs.Limits.{most_points}
use Rattle.records.specs.declared.Record.{Record}
use Rattle.history.specs.History.{minute_in}
use Rattle.calls.specs.Calls.{call_in, last_call}
use Rattle.board.specs.declared.Board.{Board}
use Rattle.rows.specs.Layout.{LaidOut}
use Rattle.neighbours.specs.Lists.{key_at, Indexed}
use Rattle.kept.specs.Rooms.{lows_at, runs_at, highs_at, minutes_at, calls_at, clock_at, done_at, last_at, kept_room}
use Rattle.keeping.specs.Counts.{holds_of, low_of, wait_of, high_of}

-- each kept number is the count, largest or least over all records
pub record Kept (rs : List Record) (clock done : ℕ) (minutes calls : List ℕ) (last : ℕ) (kept : List ℕ) : Type 0 where
  pub long : length kept ≡ kept_room
  pub holds : (q : ℕ) → q < most_points → get_or kept q 0 ≡ holds_of rs done q
  pub lows : (q : ℕ) → q < most_points → get_or kept (lows_at + q) 0 ≡ low_of rs done minutes q
  pub runs : (q : ℕ) → q < most_points → get_or kept (runs_at + q) 0 ≡ wait_of rs done minutes q
  pub highs : (q : ℕ) → q < most_points → get_or kept (highs_at + q) 0 ≡ high_of rs done minutes q
  pub minute : (q : ℕ) → q < most_points → get_or kept (minutes_at + q) 0 ≡ minute_in minutes q
  pub call : (q : ℕ) → q < most_points → get_or kept (calls_at + q) 0 ≡ call_in calls q
  pub clocks : get_or kept clock_at 0 ≡ clock
  pub dones : get_or kept done_at 0 ≡ done
  pub lasts : get_or kept last_at 0 ≡ last

-- the same of a board
abbrev pub KeptOf : List Record → Board → List ℕ → Type 0
KeptOf rs b kept = Kept rs b.clock b.done b.minutes b.calls (last_call b.done b.calls) kept

-- the plan's records as rows, and three lists of them: ordinary records and waits by the point that sets them free and by their first
-- point, and waits by their link's C
pub record Listed (rs : List Record) (rows into out ends : List ℕ) : Type 0 where
  pub laid : LaidOut rs rows
  pub into_is : Indexed (key_at rows 3 2) (length rs) into
  pub out_is : Indexed (key_at rows 3 1) (length rs) out
  pub ends_is : Indexed (key_at rows 4 5) (length rs) ends
