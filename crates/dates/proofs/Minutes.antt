-- What an origin is, and what the code shows: the date that its count of days falls on is so many days after the
-- origin's. Assumes nothing.
use mathlib.Core.Path.{◌≡◌, ap}
use mathlib.Core.Bool.{true, false, ◌&&◌, and-eq-true_iff}
use Prim.Native.Nat.{ℕ, ◌+◌, ◌-◌, ◌/◌, ◌%◌, ◌<◌, ◌≤◌}
use native.Mathlib.Omega.{arith}
use lib.Dec.{leb, ltb}
use borrow.Author.Tests.{ltb-true, leb-true}
use Rattle.dates.specs.declared.Stamp.{Stamp}
use Rattle.dates.specs.Gregorian.{first_year, last_year, Date, days_in, is_date, days_later, date_of, minute_of, clock, is_stamp, is_origin, shown}
use Rattle.dates.specs.Counting.{days_of, before, Falls}
use Rattle.dates.proofs.Sums.{next_part, rises}
use Rattle.dates.proofs.Days.{date_day, date_month, is_date_lem, same_date, later, whole_year, year_long}

-- What a stamp is that shows a date, hour and minute.
pub record OnClock (s : Stamp) : Type 0 where
  pub date : is_date (date_of s) ≡ true
  pub hours : s.hour < 24
  pub minutes : s.minute < 60

pub on_clock : (s : Stamp) → is_stamp s ≡ true → OnClock s
on_clock s e =
    let r = (and-eq-true_iff (is_date (date_of s)) (ltb s.hour 24 && ltb s.minute 60)).0 e in
    let q = (and-eq-true_iff (ltb s.hour 24) (ltb s.minute 60)).0 r.1 in
    record { date = r.0; hours = ltb-true s.hour 24 q.0; minutes = ltb-true s.minute 60 q.1 }

-- What an origin is.
pub record Origin (s : Stamp) : Type 0 where
  pub clocked : OnClock s
  pub first : first_year ≤ s.year
  pub last : s.year ≤ last_year
  pub low : 1 ≤ s.day
  pub high : s.day ≤ days_in s.year s.month
  pub month : s.month ≤ 12
  pub days : before (days_in s.year) s.month + s.day ≤ 366

pub origin_of : (s : Stamp) → is_origin s ≡ true → Origin s
unfolding is_origin
origin_of s e =
    let r = (and-eq-true_iff (leb first_year s.year && leb s.year last_year) (is_stamp s)).0 e in
    let y = (and-eq-true_iff (leb first_year s.year) (leb s.year last_year)).0 r.0 in
    let k = on_clock s r.1 in
    let d = date_day (date_of s) k.date in
    let m = date_month (date_of s) k.date in
    let n = next_part (days_in s.year) s.month in
    record {
      clocked = k;
      first = leb-true first_year s.year y.0;
      last = leb-true s.year last_year y.1;
      low = d.0;
      high = d.1;
      month = m.1;
      days = omega (arith, rises (days_in s.year) (s.month + 1) 13 (omega arith), whole_year s.year, year_long s.year);
    }

-- The date on which a count of days falls that begins with the year of a date is so many days after that date.
on_date : (o : Date) (n y l m d : ℕ) → is_date o ≡ true
    → Falls days_of (before days_of o.year + (before (days_in o.year) o.month + (o.day - 1) + n)) y l → Falls (days_in y) l m d
    → record { year = y; month = m; day = d + 1 } ≡ days_later n o
on_date o n y l m d e f g =
    let r = later n o e in
    let k = date_day o e in
    same_date _ (days_later n o) (is_date_lem _ (omega arith) (omega (arith, g.inside))) r.0
    (omega (arith, f.counted, g.counted, r.1))

-- What the code makes of an origin is what is shown: b are the days of its year before its month, y and mo the year and
-- the month in which the day falls, l and d the days of those before it.
pub made : (o : Stamp) (m b y l mo d : ℕ) → is_origin o ≡ true → b ≡ before (days_in o.year) o.month
    → Falls days_of (before days_of o.year + (b + (o.day - 1) + (m / 1440 + (minute_of o + m % 1440) / 1440))) y l
    → Falls (days_in y) l mo d
    → record { year = y; month = mo; day = d + 1; hour = (minute_of o + m % 1440) % 1440 / 60; minute = (minute_of o + m % 1440) % 1440 % 60 }
    ≡ shown o m
unfolding shown
made o m b y l mo d e h f g =
    let days : m / 1440 + (minute_of o + m % 1440) / 1440 ≡ (minute_of o + m) / 1440 = omega arith in
    let rest : (minute_of o + m % 1440) % 1440 ≡ (minute_of o + m) % 1440 = omega arith in
    let k = origin_of o e in
    let p = on_date (date_of o) _ y l mo d k.clocked.date (rw h at f) g in
    rw (e, rest, ← days) (ap (λ q. clock q ((minute_of o + m) % 1440)) p)

-- An origin that is none is given back.
pub kept : (o : Stamp) (m : ℕ) → is_origin o ≡ false → o ≡ shown o m
unfolding shown
kept o m e = rw e
