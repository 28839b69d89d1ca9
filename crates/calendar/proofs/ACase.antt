-- Worked calendars, computed by the checker: a page of its own, since it is quick, and `Lengths` builds on it, so that a
-- wrong text or a wrong order of refusals is refused here first. Assumes nothing.
use mathlib.Core.Path.{◌≡◌, refl}
use mathlib.Core.List.{List, [], ◌∷◌}
use Prim.Native.Nat.{ℕ}
use lib.IntN.{pos}
use lib.Count.{ones}
use lib.ListN.{replicate}
use Rattle.points.specs.Sets.{member, members_of, with_of, below_of, subset_of, from, every, passing}
use Rattle.values.specs.Ascii.{ascii}
use Rattle.lines.specs.Text.{digits}
use Rattle.records.specs.declared.Record.{Record}
use Rattle.plan.specs.APlan.{plan_of, how_many, some, first_that}
use Rattle.plan.specs.ReplyNumbers.{refusal, check_with, first_bad_with, number_for_with, last_kind}
use Rattle.board.specs.Boards.{fresh, sound, each, largest}
use Rattle.board.specs.Calls.{numbered}
use Rattle.board.specs.Events.{mark_all}
use Rattle.board.specs.Inside.{clock_at}
use Rattle.board.specs.declared.Board.{Board}
use Rattle.verdict.specs.Verdicts.{ended_of}
use Rattle.dates.specs.Gregorian.{leap, days_in, is_date, next_day, days_later, is_origin, shown}
use Rattle.dates.specs.declared.Stamp.{Stamp}
use Rattle.moments.specs.Event.{event_text}
use Rattle.calendar.specs.Calendars.{events_of, calendar_text, calendar_of}
use Rattle.plan.specs.declared.Refusal.{Refusal}
use Rattle.std.specs.Prelude.{Result, Ok, Err}

-- two points, the second of pond 7
abbrev pair : List Record
pair =
    record { kind = 1; a = 0; b = 0; first = pos 0; second = pos 0; code = 0 }
    ∷ record { kind = 1; a = 1; b = 0; first = pos 0; second = pos 0; code = 7 }
    ∷ []

-- five to midnight on the last day of 2099, and no such date
abbrev evening : Stamp
evening = record { year = 2099; month = 12; day = 31; hour = 23; minute = 55 }

abbrev none : Stamp
none = record { year = 2099; month = 2; day = 29; hour = 0; minute = 0 }

-- nothing is done, but the clock is past 0; and both points are done, at minutes 4 and 5
abbrev odd : Board
odd = clock_at 5 fresh

abbrev over : Board
over = mark_all 5 2 (1 ∷ []) (mark_all 4 1 (0 ∷ []) (clock_at 5 fresh))

pub a_sheet : calendar_text pair over evening
    ≡ ascii "BEGIN:VCALENDAR\r\nVERSION:2.0\r\nPRODID:-//Ponds//Sheets//EN\r\nBEGIN:VEVENT\r\nUID:0-20991231T235900Z\r\nDTSTAMP:20991231T235900Z\r\nDTSTART:20991231T235900Z\r\nSUMMARY:Point 0 0\r\nEND:VEVENT\r\nBEGIN:VEVENT\r\nUID:1-21000101T000000Z\r\nDTSTAMP:21000101T000000Z\r\nDTSTART:21000101T000000Z\r\nSUMMARY:Point 1 7\r\nEND:VEVENT\r\nEND:VCALENDAR\r\n"
unfolding calendar_text events_of event_text digits mark_all with_of member how_many leap days_in is_date next_day days_later is_origin shown
a_sheet = refl

-- what a sheet of two points answers
abbrev asked : Board → Stamp → ℕ → Result ℕ Refusal
asked b origin room = calendar_of (plan_of pair) b origin (replicate room 0)

-- 20 before 31, 31 before 51, 51 before 52; and a buffer that is just long enough
in_order_lem : (asked odd none 0 ≡ Err (refusal 20 0))
    × (asked fresh none 0 ≡ Err (refusal 31 0))
    × (asked over none 0 ≡ Err (refusal 51 0))
    × (asked over evening 315 ≡ Err (refusal 52 0))
    × (asked over evening 316 ≡ Ok 316)
unfolding calendar_of calendar_text events_of event_text digits ended_of check_with first_bad_with number_for_with last_kind how_many some first_that sound numbered each largest member members_of with_of below_of subset_of from every passing ones mark_all leap days_in is_date next_day days_later is_origin shown
in_order_lem = (refl, refl, refl, refl, refl)
