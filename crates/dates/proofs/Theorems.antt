-- What is promised of dates holds: see specs/Promises. Assumes nothing.
use mathlib.Core.Path.{◌≡◌, refl, ap}
use mathlib.Core.Bool.{Bool, true, false}
use Prim.Native.Nat.{ℕ, suc, ◌+◌, ◌*◌, ◌-◌, ◌/◌, ◌%◌, ◌<◌, ◌≤◌}
use native.Mathlib.Omega.{arith}
use lib.Dec.{ltb}
use borrow.Author.Tests.{ltb-true, ltb-false, lt-ltb}
use Rattle.std.specs.Prelude.{if◌then◌else◌}
use Rattle.dates.specs.declared.Stamp.{Stamp}
use Rattle.dates.specs.Gregorian.{Date, days_in, is_date, next_day, days_later, date_of, minute_of, clock, is_origin, shown, next_minute}
use Rattle.dates.specs.Counting.{days_of, before, day_number, minute_number}
use Rattle.dates.specs.Promises.{BeginsAtOrigin, ShowsADate, MinuteLater, NeverTheSame, CountsMinutes, YearsShown, CanBeWritten, DayAfter, Dated, OneToOne}
use Rattle.dates.proofs.Sums.{rises}
use Rattle.dates.proofs.Days.{length_of_lem, date_day, date_month, of_year, same_date, next_after, later}
use Rattle.dates.proofs.Minutes.{on_clock, origin_of}
use Rattle.dates.proofs.Years.{years_rise}

-- ---- what is shown, for an origin

-- the date that is shown
abbrev date_at : Stamp → ℕ → Date
date_at o m = days_later ((minute_of o + m) / 1440) (date_of o)

-- What is shown of an origin is on the clock of its date.
on_its_date : (o : Stamp) (m : ℕ) → is_origin o ≡ true → shown o m ≡ clock (date_at o m) ((minute_of o + m) % 1440)
unfolding shown
on_its_date o m e = rw e

pub shows_a_date : ShowsADate
shows_a_date o m e =
    let k = origin_of o e in
    let t = (minute_of o + m) % 1440 in
    let d = (later ((minute_of o + m) / 1440) (date_of o) k.clocked.date).0 in
    rw (on_its_date o m e, d, lt-ltb (t / 60) 24 (omega arith), lt-ltb (t % 60) 60 (omega arith))

pub counts_minutes : CountsMinutes
counts_minutes o m e =
    let k = origin_of o e in
    let r = (later ((minute_of o + m) / 1440) (date_of o) k.clocked.date).1 in
    rw (on_its_date o m e) (omega (arith, r))

pub never_the_same : NeverTheSame
never_the_same o m n e h =
    let s : minute_number (shown o m) ≡ minute_number (shown o n) = ap (λ q. minute_number q) h in
    omega (arith, counts_minutes o m e, counts_minutes o n e)

pub begins_at_origin : BeginsAtOrigin
unfolding days_later
begins_at_origin o e =
    let k = origin_of o e in
    let n : (minute_of o + 0) / 1440 ≡ 0 = omega (arith, k.clocked.hours, k.clocked.minutes) in
    let h : (minute_of o + 0) % 1440 / 60 ≡ o.hour = omega (arith, k.clocked.hours, k.clocked.minutes) in
    let t : (minute_of o + 0) % 1440 % 60 ≡ o.minute = omega (arith, k.clocked.hours, k.clocked.minutes) in
    rw (on_its_date o 0 e, n, h, t)

-- ---- a minute later

-- Before the last minute of a day the next one is of the same day.
same_day : (d : Date) (t : ℕ) → t < 1439 → clock d (t + 1) ≡ next_minute (clock d t)
unfolding next_minute
same_day d t l = go (ltb (t % 60) 59) refl (ltb (t / 60) 23) refl
  where
    go : (b : Bool) → ltb (t % 60) 59 ≡ b → (c : Bool) → ltb (t / 60) 23 ≡ c
        → clock d (t + 1)
        ≡ (if b then record { year = d.year; month = d.month; day = d.day; hour = t / 60; minute = t % 60 + 1 }
        else (if c then record { year = d.year; month = d.month; day = d.day; hour = t / 60 + 1; minute = 0 }
        else clock (next_day d) 0))
    go true e c f =
        let u = ltb-true (t % 60) 59 e in
        let h : (t + 1) / 60 ≡ t / 60 = omega arith in
        let m : (t + 1) % 60 ≡ t % 60 + 1 = omega arith in
        rw (h, m)
    go false e true f =
        let u = ltb-false (t % 60) 59 e in
        let h : (t + 1) / 60 ≡ t / 60 + 1 = omega arith in
        let m : (t + 1) % 60 ≡ 0 = omega arith in
        rw (h, m)
    go false e false f = absurd (omega (arith, ltb-false (t % 60) 59 e, ltb-false (t / 60) 23 f))

-- After it comes midnight.
midnight : (d : Date) → clock (next_day d) 0 ≡ next_minute (clock d 1439)
unfolding next_minute
midnight d = refl

pub minute_later : MinuteLater
unfolding days_later
minute_later o m e = go (ltb ((minute_of o + m) % 1440) 1439) refl
  where
    go : (b : Bool) → ltb ((minute_of o + m) % 1440) 1439 ≡ b → shown o (m + 1) ≡ next_minute (shown o m)
    go true f =
        let u = ltb-true ((minute_of o + m) % 1440) 1439 f in
        let n : (minute_of o + (m + 1)) / 1440 ≡ (minute_of o + m) / 1440 = omega arith in
        let t : (minute_of o + (m + 1)) % 1440 ≡ (minute_of o + m) % 1440 + 1 = omega arith in
        rw (on_its_date o (m + 1) e, on_its_date o m e, n, t) (same_day (date_at o m) ((minute_of o + m) % 1440) u)
    go false f =
        let u = ltb-false ((minute_of o + m) % 1440) 1439 f in
        let n : (minute_of o + (m + 1)) / 1440 ≡ suc ((minute_of o + m) / 1440) = omega arith in
        let t : (minute_of o + (m + 1)) % 1440 ≡ 0 = omega arith in
        let s : (minute_of o + m) % 1440 ≡ 1439 = omega arith in
        rw (on_its_date o (m + 1) e, on_its_date o m e, n, t, s) (midnight (date_at o m))

-- ---- days

pub day_after : DayAfter
day_after d e = let r = next_after d e in (r.date, r.number)

-- the first day of year 0
first : Date
first = record { year = 0; month = 1; day = 1 }

pub one_to_one : OneToOne
unfolding first is_date days_in before
one_to_one = record { same = same_date; each = dated }
  where
    dated : (n : ℕ) → Dated (suc n)
    dated n =
        let r = later n first refl in
        record { date = days_later n first; is_one = r.0; number = omega (arith, r.1) }

-- ---- years

-- A later date is of no earlier year.
no_earlier : (a b : Date) → is_date a ≡ true → is_date b ≡ true → day_number a ≤ day_number b → a.year ≤ b.year
no_earlier a b p q l = go (ltb b.year a.year) refl
  where
    go : (c : Bool) → ltb b.year a.year ≡ c → a.year ≤ b.year
    go false e = ltb-false b.year a.year e
    go true e =
        let u = ltb-true b.year a.year e in
        absurd (omega (arith, rises days_of (b.year + 1) a.year (omega arith), of_year a p, of_year b q))

-- What is left of n days and of a year makes the years between, of 365 days at least.
years_later : (n : ℕ) (d : Date) → is_date d ≡ true → before (days_in d.year) d.month + d.day ≤ 366
    → (d.year ≤ (days_later n d).year) × (365 * (days_later n d).year < 365 * d.year + 366 + n)
years_later n d e l =
    let r = later n d e in
    let y = no_earlier d (days_later n d) e r.0 (omega (arith, r.1)) in
    let k = (days_later n d).year - d.year in
    let z : d.year + k ≡ (days_later n d).year = omega arith in
    let w : before days_of d.year + 365 * k ≤ before days_of (days_later n d).year = rw z at (years_rise d.year k) in
    (y, omega (arith, of_year (days_later n d) r.0, r.1))

pub years_shown : YearsShown
years_shown o m e =
    let k = origin_of o e in
    let r = years_later ((minute_of o + m) / 1440) (date_of o) k.clocked.date k.days in
    rw (on_its_date o m e) (r.0, omega (arith, r.1, k.clocked.hours, k.clocked.minutes))

pub can_be_written : CanBeWritten
can_be_written o m e l =
    let k = on_clock (shown o m) (shows_a_date o m e) in
    let o' = origin_of o e in
    let y = years_shown o m e in
    let d = date_day (date_of (shown o m)) k.date in
    record {
      year = (omega (arith, o'.first, y.0), omega (arith, o'.last, y.1));
      month = date_month (date_of (shown o m)) k.date;
      day = (d.0, omega (arith, d.1, (length_of_lem (shown o m).year (shown o m).month).most));
      hour = k.hours;
      minute = k.minutes;
    }
