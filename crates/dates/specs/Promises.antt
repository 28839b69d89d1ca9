-- What is promised of dates, in the words of document 02, §10; proofs/Theorems has the proofs. Assumes nothing.
use Rattle.std.specs.Prelude.{◌≡◌, true, ℕ, suc, ◌+◌, ◌*◌, ◌/◌, ◌<◌, ◌≤◌}
use Rattle.dates.specs.declared.Stamp.{Stamp}
use Rattle.dates.specs.Gregorian.{Date, is_date, next_day, is_stamp, is_origin, shown, next_minute}
use Rattle.dates.specs.Counting.{days_of, before, day_number, minute_number}

-- minute 0 shows the origin
abbrev pub BeginsAtOrigin : Type 0
BeginsAtOrigin = (o : Stamp) → is_origin o ≡ true → shown o 0 ≡ o

-- what is shown is a date, an hour below 24 and a minute below 60
abbrev pub ShowsADate : Type 0
ShowsADate = (o : Stamp) (m : ℕ) → is_origin o ≡ true → is_stamp (shown o m) ≡ true

-- a minute later shows the next minute of the calendar, across hours, days, months, leap days and years
abbrev pub MinuteLater : Type 0
MinuteLater = (o : Stamp) (m : ℕ) → is_origin o ≡ true → shown o (m + 1) ≡ next_minute (shown o m)

-- two different minutes never show the same date and time
abbrev pub NeverTheSame : Type 0
NeverTheSame = (o : Stamp) (m n : ℕ) → is_origin o ≡ true → shown o m ≡ shown o n → m ≡ n

-- what is shown counts as many minutes more than the origin as were asked for, so later minutes show later
abbrev pub CountsMinutes : Type 0
CountsMinutes = (o : Stamp) (m : ℕ) → is_origin o ≡ true → minute_number (shown o m) ≡ minute_number o + m

-- the years that are shown: from the origin's year on, and at most a year more than the days from its first day on make
-- years of 365 days
abbrev pub YearsShown : Type 0
YearsShown =
    (o : Stamp) (m : ℕ) → is_origin o ≡ true → (o.year ≤ (shown o m).year) × (365 * (shown o m).year < 365 * o.year + 367 + m / 1440)

-- minutes up to which a year that is shown has four digits
abbrev pub four_digits : ℕ
four_digits = 4000000000

-- What a line that writes a stamp relies on: the year has four digits, and what stands in two digits fits them.
pub record Written (s : Stamp) : Type 0 where
  pub year : (1000 ≤ s.year) × (s.year < 10000)
  pub month : (1 ≤ s.month) × (s.month ≤ 12)
  pub day : (1 ≤ s.day) × (s.day ≤ 31)
  pub hour : s.hour < 24
  pub minute : s.minute < 60

-- what is shown can be written in four digits and four times two
abbrev pub CanBeWritten : Type 0
CanBeWritten = (o : Stamp) (m : ℕ) → is_origin o ≡ true → m ≤ four_digits → Written (shown o m)

-- the day after a date is a date, and counts one more
abbrev pub DayAfter : Type 0
DayAfter = (d : Date) → is_date d ≡ true → (is_date (next_day d) ≡ true) × (day_number (next_day d) ≡ day_number d + 1)

-- Some date has this number.
pub record Dated (n : ℕ) : Type 0 where
  pub date : Date
  pub is_one : is_date date ≡ true
  pub number : day_number date ≡ n

-- dates and counts of days are one to one: no two dates have the same number, and every number from 1 on is some date's
pub record OneToOne : Type 0 where
  pub same : (a b : Date) → is_date a ≡ true → is_date b ≡ true → day_number a ≡ day_number b → a ≡ b
  pub each : (n : ℕ) → Dated (suc n)

-- the days before a year: 365 for each year, and one more for each that is divisible by 4, but by 100, and yet by 400
abbrev pub YearsCounted : Type 0
YearsCounted = (y : ℕ) → before days_of y + (y + 99) / 100 ≡ 365 * y + (y + 3) / 4 + (y + 399) / 400

-- the calendar repeats after 400 years, which are 146,097 days
abbrev pub FourCenturies : Type 0
FourCenturies = (y : ℕ) → before days_of (y + 400) ≡ before days_of y + 146097
