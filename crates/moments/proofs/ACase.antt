-- A worked event, computed by the checker: a page of its own, since it is quick, and `Lengths` builds on it, so that a wrong
-- line is refused here first. Assumes nothing.
use mathlib.Core.Path.{◌≡◌, refl}
use Rattle.values.specs.Ascii.{ascii}
use Rattle.lines.specs.Text.{digits}
use Rattle.moments.specs.Event.{moment_text, event_text}

a_moment : moment_text 2000 2 29 23 5 ≡ ascii "20000229T230500Z"
a_moment = refl

pub an_event : event_text 12 345 (moment_text 2000 2 29 23 5)
    ≡ ascii "BEGIN:VEVENT\r\nUID:12-20000229T230500Z\r\nDTSTAMP:20000229T230500Z\r\nDTSTART:20000229T230500Z\r\nSUMMARY:Point 12 345\r\nEND:VEVENT\r\n"
unfolding event_text digits
an_event = refl

-- no pond is code 0, and the longest code has ten digits
zero_and_longest : event_text 0 4294967295 (moment_text 1970 1 1 0 0)
    ≡ ascii "BEGIN:VEVENT\r\nUID:0-19700101T000000Z\r\nDTSTAMP:19700101T000000Z\r\nDTSTART:19700101T000000Z\r\nSUMMARY:Point 0 4294967295\r\nEND:VEVENT\r\n"
unfolding event_text digits
zero_and_longest = refl
