-- Document 02, §10, "Sheets in the crews' calendars": the lines of one event, byte for byte. An event is one point's: its
-- number, its pond code and the moment at which it was done, a text of sixteen bytes in the UTC form of RFC 5545. Assumes
-- nothing.
use Rattle.std.specs.Prelude.{List, [], ◌∷◌, ◌++◌, ℕ, ◌+◌, ◌*◌, ◌/◌, ◌%◌, length}
use Rattle.values.specs.Ascii.{ascii}
use Rattle.lines.specs.Text.{decimal}

-- "lines end in CR LF"
abbrev pub line : List ℕ → List ℕ
line text = text ++ (13 ∷ 10 ∷ [])

-- the last decimal digit of n
abbrev pub digit : ℕ → ℕ
digit n = 48 + n % 10

-- the last two digits of n, and its last four
abbrev pub two : ℕ → List ℕ
two n = digit (n / 10) ∷ digit n ∷ []

abbrev pub four : ℕ → List ℕ
four n = digit (n / 10 / 10 / 10) ∷ digit (n / 10 / 10) ∷ digit (n / 10) ∷ digit n ∷ []

-- "in the UTC form": YYYYMMDDTHHMM00Z, "seconds 00"
abbrev pub moment_text : ℕ → ℕ → ℕ → ℕ → ℕ → List ℕ
moment_text year month day hour minute =
    four year ++ two month ++ two day ++ ascii "T" ++ two hour ++ two minute ++ ascii "00Z"

-- "UID (the point's number, a hyphen and the DTSTART value)"
abbrev pub uid_line : ℕ → List ℕ → List ℕ
uid_line p moment = line (ascii "UID:" ++ decimal p ++ ascii "-" ++ moment)

-- "DTSTAMP and DTSTART in the UTC form (equal to each other)"
abbrev pub stamp_line : List ℕ → List ℕ
stamp_line moment = line (ascii "DTSTAMP:" ++ moment)

abbrev pub start_line : List ℕ → List ℕ
start_line moment = line (ascii "DTSTART:" ++ moment)

-- "SUMMARY holding the word Point, the number and the pond code in decimal, one space between"
abbrev pub summary_line : ℕ → ℕ → List ℕ
summary_line p code = line (ascii "SUMMARY:Point " ++ decimal p ++ ascii " " ++ decimal code)

-- one event, "with these in order"
unfoldable pub event_text : ℕ → ℕ → List ℕ → List ℕ
event_text p code moment =
    line (ascii "BEGIN:VEVENT")
    ++ uid_line p moment
    ++ stamp_line moment
    ++ start_line moment
    ++ summary_line p code
    ++ line (ascii "END:VEVENT")

-- what an event has beside the two numbers of the point and the pond code
abbrev pub event_fixed : ℕ
event_fixed = 118

-- how long an event is, whatever its moment
abbrev pub event_length : ℕ → ℕ → ℕ
event_length p code = event_fixed + 2 * length (decimal p) + length (decimal code)
