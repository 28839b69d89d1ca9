-- Days and minutes counted from the beginning of year 0: what the code counts by, and what shows that no two dates are
-- confused. Assumes nothing.
use Rattle.std.specs.Prelude.{ℕ, zero, suc, ◌+◌, ◌*◌, ◌<◌, ◌≡◌, if◌then◌else◌}
use Rattle.dates.specs.declared.Stamp.{Stamp}
use Rattle.dates.specs.Gregorian.{Date, leap, days_in, date_of, minute_of}

-- the days of a year
unfoldable pub days_of : ℕ → ℕ
days_of y = if leap y then 366 else 365

-- f 0 + f 1 + .. up to what stands before f n
unfoldable pub before : (ℕ → ℕ) → ℕ → ℕ
before f zero = 0
before f (suc n) = before f n + f n

-- the number of a date's day: the days of the years before, the days of the months before in its year, and the day of the
-- month
abbrev pub day_number : Date → ℕ
day_number d = before days_of d.year + before (days_in d.year) d.month + d.day

-- the number of a stamp's minute
abbrev pub minute_number : Stamp → ℕ
minute_number s = day_number (date_of s) * 1440 + minute_of s

-- years and days up to which the code counts: far more than any minute of an origin reaches
abbrev pub farthest : ℕ
farthest = 1000000000

-- Day number n, the first being 0, is day `left` of part `part` (a year, or a month), the first being 0, where part k has
-- f k days.
pub record Falls (f : ℕ → ℕ) (n part left : ℕ) : Type 0 where
  pub counted : before f part + left ≡ n
  pub inside : left < f part
