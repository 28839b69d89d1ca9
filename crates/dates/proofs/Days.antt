-- The days of months and of years, and the number of a day: what each date counts, that the day after counts one more,
-- and that two dates never count the same. Assumes nothing.
use mathlib.Core.Path.{◌≡◌, refl, ap, sym, ◌∙◌}
use mathlib.Core.Bool.{Bool, true, false, true≢false, and-eq-true_iff}
use Prim.Native.Nat.{ℕ, zero, suc, ◌+◌, ◌-◌, ◌<◌, ◌≤◌}
use native.Mathlib.Omega.{arith}
use lib.Dec.{eqb, leb, ltb}
use borrow.Author.Tests.{ltb-true, ltb-false, leb-true, le-leb}
use Rattle.std.specs.Prelude.{if◌then◌else◌}
use Rattle.dates.specs.Gregorian.{Date, leap, is_month, has_thirty, days_in, is_date, next_day, days_later}
use Rattle.dates.specs.Counting.{days_of, before, day_number, Falls}
use Rattle.dates.proofs.Sums.{next_part, rises, falls_once}

-- What the days of a month can be: none where it is no month.
pub record Length (m n : ℕ) : Type 0 where
  pub most : n ≤ 31
  pub month : 1 ≤ n → (1 ≤ m) × (m ≤ 12)
  pub some : 1 ≤ m → m ≤ 12 → 28 ≤ n

-- some days of a month, by the tests that they go by: it is one, it is February, the year is a leap year, it has thirty
abbrev by_tests : Bool → Bool → Bool → Bool → ℕ
by_tests a b c d = if a then (if b then (if c then 29 else 28) else (if d then 30 else 31)) else 0

-- What the tests say gives the days of the month.
pub chosen : (y m : ℕ) (a b c d : Bool) → is_month m ≡ a → eqb m 2 ≡ b → leap y ≡ c → has_thirty m ≡ d
    → by_tests a b c d ≡ days_in y m
unfolding days_in
chosen y m a b c d e f g h = sym (rw (e, f, g, h))

pub length_of_lem : (y m : ℕ) → Length m (days_in y m)
length_of_lem y m =
    rw (← chosen y m (is_month m) (eqb m 2) (leap y) (has_thirty m) refl refl refl refl) (go (is_month m) refl (eqb m 2) (leap y) (has_thirty m))
  where
    go : (a : Bool) → is_month m ≡ a → (b c d : Bool) → Length m (by_tests a b c d)
    go true e b c d =
        let r = (and-eq-true_iff (leb 1 m) (leb m 12)).0 e in
        let n = some_days b c d in
        record { most = n.1; month = λ o. (leb-true 1 m r.0, leb-true m 12 r.1); some = λ l h. n.0 }
      where
        some_days : (b c d : Bool) → (28 ≤ by_tests true b c d) × (by_tests true b c d ≤ 31)
        some_days true true d = (omega arith, omega arith)
        some_days true false d = (omega arith, omega arith)
        some_days false c true = (omega arith, omega arith)
        some_days false c false = (omega arith, omega arith)
    go false e b c d =
        record {
          most = omega arith;
          month = λ o. absurd (omega arith);
          some = λ l h. absurd (true≢false (sym ((and-eq-true_iff (leb 1 m) (leb m 12)).1 (le-leb 1 m l, le-leb m 12 h)) ∙ e));
        }

-- A year's months are its days.
pub whole_year : (y : ℕ) → before (days_in y) 13 ≡ days_of y
unfolding before days_in days_of
whole_year y = go (leap y)
  where
    go : (b : Bool) → 31 + (if b then 29 else 28) + 31 + 30 + 31 + 30 + 31 + 31 + 30 + 31 + 30 + 31 ≡ (if b then 366 else 365)
    go true = refl
    go false = refl

-- A year has days.
pub year_long : (y : ℕ) → (365 ≤ days_of y) × (days_of y ≤ 366)
unfolding days_of
year_long y = go (leap y)
  where
    go : (b : Bool) → (365 ≤ (if b then 366 else 365)) × ((if b then 366 else 365) ≤ 366)
    go true = (omega arith, omega arith)
    go false = (omega arith, omega arith)

-- Nothing is before January.
pub january : (y : ℕ) → before (days_in y) 1 ≡ 0
unfolding before days_in
january y = refl

-- A month with days before the end of its year, which those behind it do not use up, is not December.
pub not_last : (y n m left : ℕ) → before (days_in y) m + left ≡ n → n < days_of y → days_in y m ≤ left → m ≤ 12 → m + 1 ≤ 12
unfolding before
not_last y n m left e l w h = go (ltb m 12) refl
  where
    go : (b : Bool) → ltb m 12 ≡ b → m + 1 ≤ 12
    go true t = omega (arith, ltb-true m 12 t)
    go false t = let k : m ≡ 12 = omega (arith, ltb-false m 12 t) in absurd (omega (arith, rw k at e, rw k at w, whole_year y))

-- ---- dates and the numbers of their days

-- What a date's day is.
pub date_day : (d : Date) → is_date d ≡ true → (1 ≤ d.day) × (d.day ≤ days_in d.year d.month)
unfolding is_date
date_day d e =
    let r = (and-eq-true_iff (leb 1 d.day) (leb d.day (days_in d.year d.month))).0 e in
    (leb-true 1 d.day r.0, leb-true d.day (days_in d.year d.month) r.1)

-- Such a day makes a date.
pub is_date_lem : (d : Date) → 1 ≤ d.day → d.day ≤ days_in d.year d.month → is_date d ≡ true
unfolding is_date
is_date_lem d l h = rw (le-leb 1 d.day l, le-leb d.day (days_in d.year d.month) h)

-- What a date's month is.
pub date_month : (d : Date) → is_date d ≡ true → (1 ≤ d.month) × (d.month ≤ 12)
date_month d e = let r = date_day d e in (length_of_lem d.year d.month).month (omega arith)

-- A date's place in its year.
in_year : (d : Date) (n : ℕ) → is_date d ≡ true → day_number d ≡ n + 1
    → Falls days_of n d.year (before (days_in d.year) d.month + (d.day - 1))
in_year d n e k =
    let r = date_day d e in
    let m = date_month d e in
    let s = rises (days_in d.year) (d.month + 1) 13 (omega arith) in
    record {
      counted = omega arith;
      inside = omega (arith, next_part (days_in d.year) d.month, whole_year d.year);
    }

-- A date's number is past the days of the years before, and not past those of its own.
pub of_year : (d : Date) → is_date d ≡ true → (before days_of d.year < day_number d) × (day_number d ≤ before days_of (d.year + 1))
of_year d e =
    let r = date_day d e in
    let f = in_year d (day_number d - 1) e (omega arith) in
    (omega arith, omega (arith, next_part days_of d.year, f.inside))

-- A date's place in its month.
in_month : (d : Date) (n : ℕ) → is_date d ≡ true → before (days_in d.year) d.month + (d.day - 1) ≡ n
    → Falls (days_in d.year) n d.month (d.day - 1)
in_month d n e k = let r = date_day d e in record { counted = k; inside = omega arith }

-- Two dates whose days have the same number are the same date.
pub same_date : (a b : Date) → is_date a ≡ true → is_date b ≡ true → day_number a ≡ day_number b → a ≡ b
same_date a b p q e =
    let r = date_day a p in
    let s = date_day b q in
    let n = day_number a - 1 in
    let ya : Falls days_of n a.year (before (days_in a.year) a.month + (a.day - 1)) = in_year a n p (omega arith) in
    let yb : Falls days_of n b.year (before (days_in b.year) b.month + (b.day - 1)) = in_year b n q (omega arith) in
    let y : a.year ≡ b.year = falls_once _ _ _ _ _ _ ya yb in
    let u : before days_of a.year ≡ before days_of b.year = ap (λ k. before days_of k) y in
    let k = before (days_in b.year) b.month + (b.day - 1) in
    let ma : Falls (days_in a.year) k a.month (a.day - 1) = in_month a k p (omega (arith, ya.counted, yb.counted)) in
    let mb : Falls (days_in a.year) k b.month (b.day - 1) = rw y (in_month b k q refl) in
    let m : a.month ≡ b.month = falls_once _ _ _ _ _ _ ma mb in
    let w : before (days_in a.year) a.month ≡ before (days_in b.year) b.month = rw (y, m) in
    let d : a.day ≡ b.day = omega arith in
    λ i. record { year = y i; month = m i; day = d i }

-- ---- the day after

-- The day after a date is a date, and its number is one more.
pub record After (d e : Date) : Type 0 where
  pub date : is_date e ≡ true
  pub number : day_number e ≡ day_number d + 1

pub next_after : (d : Date) → is_date d ≡ true → After d (next_day d)
unfolding next_day
next_after d e = go (ltb d.day (days_in d.year d.month)) refl (ltb d.month 12) refl
  where
    go : (b : Bool) → ltb d.day (days_in d.year d.month) ≡ b → (c : Bool) → ltb d.month 12 ≡ c
        → After d
        (if b then record { year = d.year; month = d.month; day = d.day + 1 }
        else (if c then record { year = d.year; month = d.month + 1; day = 1 }
        else record { year = d.year + 1; month = 1; day = 1 }))
    go true l c h =
        let r = ltb-true d.day (days_in d.year d.month) l in
        record { date = is_date_lem _ (omega arith) (omega arith); number = omega arith }
    go false l true h =
        let m = ltb-true d.month 12 h in
        let r = date_day d e in
        record {
          date = is_date_lem _ (omega arith) (omega (arith, (length_of_lem d.year (d.month + 1)).some (omega arith) (omega arith)));
          number = omega (arith, next_part (days_in d.year) d.month, ltb-false d.day (days_in d.year d.month) l);
        }
    go false l false h =
        let r = date_day d e in
        let m : d.month ≡ 12 = omega (arith, ltb-false d.month 12 h, date_month d e) in
        let j = january (d.year + 1) in
        let w : before (days_in d.year) (d.month + 1) ≡ days_of d.year = rw m (whole_year d.year) in
        let z : d.day ≡ days_in d.year d.month = omega (arith, ltb-false d.day (days_in d.year d.month) l) in
        record {
          date = is_date_lem _ (omega arith) (omega (arith, (length_of_lem (d.year + 1) 1).some (omega arith) (omega arith)));
          number = omega (arith, next_part (days_in d.year) d.month, next_part days_of d.year);
        }

-- So many days after a date is a date, and its number is so much more.
pub later : (n : ℕ) (d : Date) → is_date d ≡ true
    → (is_date (days_later n d) ≡ true) × (day_number (days_later n d) ≡ day_number d + n)
unfolding days_later
later zero d e = (e, omega arith)
later (suc n) d e =
    let r = later n d e in
    let s = next_after (days_later n d) r.0 in
    (s.date, omega (arith, s.number, r.1))
