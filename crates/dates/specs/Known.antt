-- Dates that are known from elsewhere, as tables that the checker computes: what some minutes show, what may be given for
-- minute 0 and what may not, and the numbers of some days. Assumes nothing.
use Rattle.std.specs.Prelude.{Bool, true, false, not, List, [], ◌∷◌, map, ◌≡◌, ℕ, ◌*◌}
use Rattle.dates.specs.declared.Stamp.{Stamp}
use Rattle.dates.specs.Gregorian.{Date, leap, is_origin, shown, next_minute}
use Rattle.dates.specs.Counting.{day_number}

-- a stamp: year, month, day, hour, minute
abbrev pub on : ℕ → ℕ → ℕ → ℕ → ℕ → Stamp
on y m d h t = record { year = y; month = m; day = d; hour = h; minute = t }

-- so many days, in minutes
abbrev pub days : ℕ → ℕ
days n = n * 1440

-- Minute `after` shows `shows` where minute 0 is the origin.
pub record Row : Type 0 where
  pub origin : Stamp
  pub after : ℕ
  pub shows : Stamp

abbrev pub row : Stamp → ℕ → Stamp → Row
row o m s = record { origin = o; after = m; shows = s }

-- a row as the rules have it
abbrev pub ruled : Row → Row
ruled r = row r.origin r.after (shown r.origin r.after)

-- a row of one minute as `next_minute` has it
abbrev pub stepped : Row → Row
stepped r = row r.origin 1 (next_minute r.origin)

-- a minute after: past the last year of an origin, past a year, in February, past a month, past an hour, in an hour
abbrev pub minutes : List Row
minutes =
    row (on 2099 12 31 23 59) 1 (on 2100 1 1 0 0)
    ∷ row (on 1999 12 31 23 59) 1 (on 2000 1 1 0 0)
    ∷ row (on 2000 2 28 23 59) 1 (on 2000 2 29 0 0)
    ∷ row (on 2000 2 29 23 59) 1 (on 2000 3 1 0 0)
    ∷ row (on 2023 2 28 23 59) 1 (on 2023 3 1 0 0)
    ∷ row (on 2025 4 30 23 59) 1 (on 2025 5 1 0 0)
    ∷ row (on 2025 4 30 22 59) 1 (on 2025 4 30 23 0)
    ∷ row (on 2025 4 30 22 15) 1 (on 2025 4 30 22 16)
    ∷ []

-- other minutes after; an origin that is none is given back
abbrev pub others : List Row
others =
    row (on 2026 11 15 21 0) 0 (on 2026 11 15 21 0)
    ∷ row (on 2025 4 30 22 15) 105 (on 2025 5 1 0 0)
    ∷ row (on 2096 2 28 12 0) (days 1) (on 2096 2 29 12 0)
    ∷ row (on 2099 2 28 12 0) (days 1) (on 2099 3 1 12 0)
    ∷ row (on 2025 2 30 0 0) 7 (on 2025 2 30 0 0)
    ∷ row (on 2100 1 1 0 0) 7 (on 2100 1 1 0 0)
    ∷ []

-- many days after
abbrev pub farther : List Row
farther =
    row (on 2099 12 31 0 0) (days 59) (on 2100 2 28 0 0)
    ∷ row (on 2099 12 31 0 0) (days 60) (on 2100 3 1 0 0)
    ∷ row (on 2024 1 1 0 0) (days 366) (on 2025 1 1 0 0)
    ∷ row (on 2025 1 1 0 0) (days 365) (on 2026 1 1 0 0)
    ∷ row (on 2019 10 7 6 0) 3200000 (on 2025 11 6 11 20)
    ∷ row (on 1970 1 1 0 0) (days 10957) (on 2000 1 1 0 0)
    ∷ []

-- the first and the last origin, and 29 February where there is one
abbrev pub origins : List Stamp
origins =
    on 1970 1 1 0 0
    ∷ on 2099 12 31 23 59
    ∷ on 1972 2 29 0 0
    ∷ on 2000 2 29 0 0
    ∷ on 2096 2 29 0 0
    ∷ on 2025 1 31 0 0
    ∷ on 2025 4 30 0 0
    ∷ []

-- a minute before the first and one after the last, months and days that there are none of, 24:00 and minute 60
abbrev pub no_origins : List Stamp
no_origins =
    on 1969 12 31 23 59
    ∷ on 2100 1 1 0 0
    ∷ on 2025 0 1 0 0
    ∷ on 2025 13 1 0 0
    ∷ on 2025 1 0 0 0
    ∷ on 2025 1 32 0 0
    ∷ on 2025 4 31 0 0
    ∷ on 2025 6 31 0 0
    ∷ on 2025 9 31 0 0
    ∷ on 2025 11 31 0 0
    ∷ on 2025 2 29 0 0
    ∷ on 2099 2 29 0 0
    ∷ on 2024 2 30 0 0
    ∷ on 2025 1 1 24 0
    ∷ on 2025 1 1 0 60
    ∷ []

-- those of a list of stamps that pass a test
unfoldable pub those : (Stamp → Bool) → List Stamp → List Stamp
those so [] = []
those so (s ∷ ss) = front (so s) s (those so ss)
  where
    front : Bool → Stamp → List Stamp → List Stamp
    front true t ts = t ∷ ts
    front false t ts = ts

-- centuries: every fourth is a leap year
abbrev pub centuries : List ℕ
centuries = 1600 ∷ 1700 ∷ 1800 ∷ 1900 ∷ 2000 ∷ 2100 ∷ 2200 ∷ 2300 ∷ 2400 ∷ []

abbrev pub leap_centuries : List Bool
leap_centuries = true ∷ false ∷ false ∷ false ∷ true ∷ false ∷ false ∷ false ∷ true ∷ []

-- a date's number
pub record Numbered : Type 0 where
  pub date : Date
  pub number : ℕ

abbrev pub numbered : ℕ → ℕ → ℕ → ℕ → Numbered
numbered y m d n = record { date = record { year = y; month = m; day = d }; number = n }

-- a row as the rules have it
abbrev pub counted : Numbered → Numbered
counted r = record { date = r.date; number = day_number r.date }

-- the first day of year 0 is number 1: the numbers that other calendars count by are these, or these less 366 (from year
-- 1 on) or less 719529 (from 1970 on)
abbrev pub numbers : List Numbered
numbers =
    numbered 0 1 1 1
    ∷ numbered 1 1 1 367
    ∷ numbered 1582 10 15 578102
    ∷ numbered 1970 1 1 719529
    ∷ numbered 2000 1 1 730486
    ∷ numbered 2000 3 1 730546
    ∷ numbered 2099 12 31 767010
    ∷ numbered 2100 3 1 767070
    ∷ []

-- What the checker computes: the rules have every row as it stands here.
pub record AsKnown : Type 0 where
  pub leap_so : map leap centuries ≡ leap_centuries
  pub all_origins : those (λ s. not (is_origin s)) origins ≡ []
  pub none : those is_origin no_origins ≡ []
  pub next_so : map stepped minutes ≡ minutes
  pub shown_so : map ruled minutes ≡ minutes
  pub others_so : map ruled others ≡ others
  pub farther_so : map ruled farther ≡ farther
  pub numbered_so : map counted numbers ≡ numbers
