-- The line of an event, and of one point in the list of a reply, from an engine's rooms. Assumes nothing.
use Rattle.std.specs.Prelude.{◌≡◌, Bool, true, false, List, ℕ, ◌+◌, ◌-◌, ◌%◌, ◌^◌, ◌<◌, min, ℤ, pos, length, get_or}
use Rattle.numbers.specs.Numbers.{signed_of}
use Rattle.points.specs.Sets.{count_of}
use Rattle.plan.specs.Limits.{most_points, most_records}
pub use Rattle.codes.specs.Ponds.{ForEach, pond_at}
use Rattle.plan.specs.APlan.{blank}
use Rattle.records.specs.declared.Record.{Record}
use Rattle.plan.specs.declared.Plan.{Plan}
use Rattle.rows.specs.Sheet.{row_at}
use Rattle.rows.specs.declared.sheet.Row.{Row}
use Rattle.kept.specs.Rooms.{clock_at, done_at}
use Rattle.replies.specs.declared.Place.{Place}
use Rattle.replies.specs.declared.State.{State}
use Rattle.replies.specs.declared.State.TheVariants.{Done, Watched, Shut, Held, Offered}
use Rattle.replies.specs.declared.Outcome.{Outcome}
use Rattle.replies.specs.declared.Outcome.TheVariants.{Refused, Finished, Stuck, Waiting, Offers}
use Rattle.replies.specs.declared.Reply.{Reply}
use Rattle.text.specs.Lines.{numbers_line, point_line}
use Rattle.lines.specs.declared.Line.{Line}

-- event k, its reply number n, and the clock and the count of done points that are kept after it
abbrev pub kept_line : List ℕ → ℕ → ℕ → Line
kept_line kept k n = numbers_line k n (get_or kept clock_at 0) (count_of (get_or kept done_at 0))

-- a board that is neither refused nor finished has a list
abbrev pub has_list : Outcome → Bool
has_list (Refused n i) = false
has_list Finished = false
has_list Stuck = true
has_list Waiting = true
has_list Offers = true

-- what stands past a list's end; no line is made of it
abbrev pub nowhere : Place
nowhere = record { state = Done 0 }

-- the record that keeps a point shut, 0 for none
abbrev pub named_by : State → ℕ
named_by (Done m) = 0
named_by Watched = 0
named_by (Shut n) = n
named_by Held = 0
named_by (Offered low) = 0

-- a number of thirty-two bits from what it adds and what it takes away
abbrev pub joined : ℕ → ℕ → ℤ
joined up down = signed_of ((up % 2 ^ 32 + (2 ^ 32 - down % 2 ^ 32)) % 2 ^ 32)

-- the record of a row, as far as a line shows it
abbrev pub reason_of : Row → Record
reason_of x =
    record {
      kind = x.kind % 256;
      a = x.from % 256;
      b = x.over % 256;
      first = joined x.first x.second;
      second = pos 0;
      code = 0;
    }

-- that of row n; a number past all rows reads the last
abbrev pub reason_at : List ℕ → ℕ → Record
reason_at rows n = reason_of (row_at rows (min n (most_records - 1)))

-- point I, its pond, and what the reply says of the point
abbrev pub line_at : List ℕ → List ℕ → Reply → ℕ → Line
line_at rows ponds r i =
    point_line i (get_or ponds i 0) (get_or r.places i nowhere) (reason_at rows (named_by (get_or r.places i nowhere).state))
