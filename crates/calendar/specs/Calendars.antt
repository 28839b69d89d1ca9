-- Document 02, §10, "Sheets in the crews' calendars": the text of a finished board, byte for byte, and what writing it
-- answers. The lines of an event are said in `Event` of `moments`, the date that a minute shows in `Gregorian` of `dates`,
-- the refusals 20 and 31 in `Verdicts` of `verdict`. Assumes nothing.
use Rattle.std.specs.Prelude.{not, List, Result, Ok, Err, [], ◌++◌, ℕ, zero, suc, ◌+◌, eqb, ltb, length, drop, get_or, if◌then◌else◌}
use Rattle.values.specs.Ascii.{ascii}
use Rattle.plan.specs.APlan.{points, blank, records_of}
use Rattle.plan.specs.ReplyNumbers.{refusal}
use Rattle.plan.specs.declared.Plan.{Plan}
use Rattle.plan.specs.declared.Refusal.{Refusal}
use Rattle.records.specs.declared.Record.{Record}
use Rattle.board.specs.Boards.{minute}
use Rattle.board.specs.declared.Board.{Board}
use Rattle.verdict.specs.Verdicts.{ended_of}
use Rattle.dates.specs.Gregorian.{is_origin, shown}
use Rattle.dates.specs.declared.Stamp.{Stamp}
use Rattle.moments.specs.Event.{line, moment_text, event_text, event_length}

-- a date, hour and minute in the UTC form
abbrev pub stamp_text : Stamp → List ℕ
stamp_text s = moment_text s.year s.month s.day s.hour s.minute

-- the pond code of a point: a plan's points are its first records
abbrev pub pond_code : List Record → ℕ → ℕ
pond_code rs p = (get_or rs p blank).code

-- the moment at which a point was done, minute 0 being the origin
abbrev pub moment_of : Board → Stamp → ℕ → List ℕ
moment_of b origin p = stamp_text (shown origin (minute b p))

-- "one event for each point"
abbrev pub event_of : List Record → Board → Stamp → ℕ → List ℕ
event_of rs b origin p = event_text p (pond_code rs p) (moment_of b origin p)

-- the events of the first n points, "in point order"
unfoldable pub events_of : List Record → Board → Stamp → ℕ → List ℕ
events_of rs b origin zero = []
events_of rs b origin (suc n) = events_of rs b origin n ++ event_of rs b origin n

-- "one calendar, VERSION 2.0 and then PRODID `-//Ponds//Sheets//EN`"
abbrev pub heading : List ℕ
heading = line (ascii "BEGIN:VCALENDAR") ++ line (ascii "VERSION:2.0") ++ line (ascii "PRODID:-//Ponds//Sheets//EN")

abbrev pub ending : List ℕ
ending = line (ascii "END:VCALENDAR")

-- the whole text
unfoldable pub calendar_text : List Record → Board → Stamp → List ℕ
calendar_text rs b origin = heading ++ events_of rs b origin (points rs) ++ ending

-- how long the events of the first n points are, whatever their minutes
unfoldable pub events_length : List Record → ℕ → ℕ
events_length rs zero = 0
events_length rs (suc n) = events_length rs n + event_length n (pond_code rs n)

-- how long the whole text is: the plan alone says it
unfoldable pub text_length : List Record → ℕ
text_length rs = length heading + events_length rs (points rs) + length ending

-- no sheet's text is longer
abbrev pub most_text : ℕ
most_text = 4_278

-- "after 20 and 31, 51 for an origin that is no such date, 52 for too short a buffer"; else the text's length
unfoldable pub calendar_of : Plan → Board → Stamp → List ℕ → Result ℕ Refusal
calendar_of p b origin out =
    if not (eqb (ended_of p b).number 0) then Err (ended_of p b)
    else (if not (is_origin origin) then Err (refusal 51 0)
    else (if ltb (length out) (length (calendar_text (records_of p) b origin)) then Err (refusal 52 0)
    else Ok (length (calendar_text (records_of p) b origin))))

-- the buffer after that: a refusal leaves it "untouched, as do bytes past an accepted text"
abbrev pub left_by : Result ℕ Refusal → List ℕ → List ℕ → List ℕ
left_by (Ok n) text out = text ++ drop (length text) out
left_by (Err r) text out = out

unfoldable pub written_of : Plan → Board → Stamp → List ℕ → List ℕ
written_of p b origin out = left_by (calendar_of p b origin out) (calendar_text (records_of p) b origin) out
