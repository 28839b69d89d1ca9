-- The Gregorian calendar, as document 02, §10 asks for it: leap years, the days of a month, the day after a date, and the
-- date, hour and minute that a minute of a sheet shows, minute 0 being the origin. Every definition computes. Assumes
-- nothing.
use Rattle.std.specs.Prelude.{Bool, not, ◌&&◌, ◌||◌, ℕ, zero, suc, ◌+◌, ◌*◌, ◌/◌, ◌%◌, eqb, leb, ltb, if◌then◌else◌}
use Rattle.dates.specs.declared.Stamp.{Stamp}

-- the years of which minute 0 may be
abbrev pub first_year : ℕ
first_year = 1970

abbrev pub last_year : ℕ
last_year = 2099

-- A year, a month (January is 1) and a day of the month (the first is 1).
pub record Date : Type 0 where
  pub year : ℕ
  pub month : ℕ
  pub day : ℕ

-- a leap year: divisible by 4 and not by 100, or divisible by 400
unfoldable pub leap : ℕ → Bool
leap y = (eqb (y % 4) 0 && not (eqb (y % 100) 0)) || eqb (y % 400) 0

-- January is month 1 and December month 12
abbrev pub is_month : ℕ → Bool
is_month m = leb 1 m && leb m 12

-- April, June, September and November
abbrev pub has_thirty : ℕ → Bool
has_thirty m = eqb m 4 || (eqb m 6 || (eqb m 9 || eqb m 11))

-- the days of a month: February has 28, in a leap year 29; those four have 30, and the others 31. A number that is no
-- month has none.
unfoldable pub days_in : ℕ → ℕ → ℕ
days_in y m =
    if is_month m then
    (if eqb m 2 then (if leap y then 29 else 28) else (if has_thirty m then 30 else 31))
    else 0

-- it is a date: the month has such a day
unfoldable pub is_date : Date → Bool
is_date d = leb 1 d.day && leb d.day (days_in d.year d.month)

-- the day after: of the same month, else the first of the next month, else the first of January
unfoldable pub next_day : Date → Date
next_day d =
    if ltb d.day (days_in d.year d.month) then record { year = d.year; month = d.month; day = d.day + 1 }
    else (if ltb d.month 12 then record { year = d.year; month = d.month + 1; day = 1 }
    else record { year = d.year + 1; month = 1; day = 1 })

-- n days after a date
unfoldable pub days_later : ℕ → Date → Date
days_later zero d = d
days_later (suc n) d = next_day (days_later n d)

-- a stamp's date
abbrev pub date_of : Stamp → Date
date_of s = record { year = s.year; month = s.month; day = s.day }

-- the minute of its day that a stamp shows: 0 at midnight
abbrev pub minute_of : Stamp → ℕ
minute_of s = s.hour * 60 + s.minute

-- minute t of a day: its date, and the hour and minute on the clock
abbrev pub clock : Date → ℕ → Stamp
clock d t = record { year = d.year; month = d.month; day = d.day; hour = t / 60; minute = t % 60 }

-- it is a date, hour and minute
abbrev pub is_stamp : Stamp → Bool
is_stamp s = is_date (date_of s) && (ltb s.hour 24 && ltb s.minute 60)

-- what a caller may give for minute 0: a date, hour and minute of one of those years
unfoldable pub is_origin : Stamp → Bool
is_origin s = (leb first_year s.year && leb s.year last_year) && is_stamp s

-- The date, hour and minute that minute m shows, where minute 0 is the origin: 1440 minutes make a day. An origin that is
-- none is given back as it is.
unfoldable pub shown : Stamp → ℕ → Stamp
shown o m =
    if is_origin o then clock (days_later ((minute_of o + m) / 1440) (date_of o)) ((minute_of o + m) % 1440)
    else o

-- the minute after: of the same hour, else the first of the next hour, else midnight of the day after
unfoldable pub next_minute : Stamp → Stamp
next_minute s =
    if ltb s.minute 59 then record { year = s.year; month = s.month; day = s.day; hour = s.hour; minute = s.minute + 1 }
    else (if ltb s.hour 23 then record { year = s.year; month = s.month; day = s.day; hour = s.hour + 1; minute = 0 }
    else clock (next_day (date_of s)) 0)
