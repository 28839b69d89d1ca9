-- The days of the years before a year, counted at once: 365 for each, and one for each leap year. Assumes nothing.
use mathlib.Core.Path.{◌≡◌, refl}
use mathlib.Core.Bool.{Bool, true, false, not, ◌&&◌, ◌||◌}
use Prim.Native.Nat.{ℕ, zero, suc, ◌+◌, ◌*◌, ◌/◌, ◌%◌, ◌≤◌}
use native.Mathlib.Nat.{mod-add-div', add-div_right, add-mul-div_right, div-eq_of_lt, div-eq_of_lt-le, mod-lt}
use native.Mathlib.Omega.{arith}
use lib.Dec.{eqb}
use borrow.Author.Tests.{eqb-true, eqb-false}
use Rattle.std.specs.Prelude.{if◌then◌else◌}
use Rattle.dates.specs.Gregorian.{leap}
use Rattle.dates.specs.Counting.{days_of, before}
use Rattle.dates.specs.Promises.{YearsCounted, FourCenturies}
use Rattle.dates.proofs.Days.{year_long}

-- Of the years up to y one more is divisible by a number than of those before y, where y is, else as many.
one_more : (y j : ℕ) (b : Bool) → eqb (y % suc j) 0 ≡ b → (y + suc j) / suc j ≡ (y + j) / suc j + (if b then 1 else 0)
one_more y j b e =
    let cut : y + j ≡ y % suc j + j + y / suc j * suc j = omega (arith, mod-add-div' y (suc j)) in
    rw (add-div_right y {k = suc j} (omega arith), cut, add-mul-div_right (y % suc j + j) (y / suc j) {z = suc j} (omega arith)) (go b e)
  where
    go : (b : Bool) → eqb (y % suc j) 0 ≡ b → y / suc j + 1 ≡ (y % suc j + j) / suc j + y / suc j + (if b then 1 else 0)
    go true e =
        let z : y % suc j + j ≡ j = omega (arith, eqb-true (y % suc j) 0 e) in
        let q : j / suc j ≡ 0 = div-eq_of_lt (omega arith) in
        rw (z, q) (omega arith)
    go false e =
        let n = eqb-false (y % suc j) 0 e in
        let q : (y % suc j + j) / suc j ≡ 1 = div-eq_of_lt-le (suc j) (omega arith) (omega (arith, mod-lt y {m = suc j} (omega arith))) in
        rw q (omega arith)

-- What a year adds to the count.
step : (y : ℕ) → days_of y + (y + 100) / 100 + (y + 3) / 4 + (y + 399) / 400 ≡ 365 + (y + 99) / 100 + (y + 4) / 4 + (y + 400) / 400
unfolding days_of leap
step y =
    go (eqb (y % 4) 0) refl (eqb (y % 100) 0) refl (eqb (y % 400) 0) refl (one_more y 3 (eqb (y % 4) 0) refl) (one_more y 99 (eqb (y % 100) 0) refl)
    (one_more y 399 (eqb (y % 400) 0) refl)
  where
    go : (a : Bool) → eqb (y % 4) 0 ≡ a → (b : Bool) → eqb (y % 100) 0 ≡ b → (c : Bool) → eqb (y % 400) 0 ≡ c
        → (y + 4) / 4 ≡ (y + 3) / 4 + (if a then 1 else 0)
        → (y + 100) / 100 ≡ (y + 99) / 100 + (if b then 1 else 0)
        → (y + 400) / 400 ≡ (y + 399) / 400 + (if c then 1 else 0)
        → (if (a && not b) || c then 366 else 365) + (y + 100) / 100 + (y + 3) / 4 + (y + 399) / 400
        ≡ 365 + (y + 99) / 100 + (y + 4) / 4 + (y + 400) / 400
    go true e true f true g p q r = rw (p, q, r) (omega arith)
    go true e true f false g p q r = rw (p, q, r) (omega arith)
    go true e false f true g p q r = absurd (eqb-false (y % 100) 0 f (omega (arith, eqb-true (y % 400) 0 g)))
    go true e false f false g p q r = rw (p, q, r) (omega arith)
    go false e b f true g p q r = absurd (eqb-false (y % 4) 0 e (omega (arith, eqb-true (y % 400) 0 g)))
    go false e true f false g p q r = absurd (eqb-false (y % 4) 0 e (omega (arith, eqb-true (y % 100) 0 f)))
    go false e false f false g p q r = rw (p, q, r) (omega arith)

-- The count with one year more: h, f and g stand for the years divisible by 100, by 4 and by 400.
with_one : (b d h h' f f' g g' n : ℕ) → d + h' + f + g ≡ 365 + h + f' + g' → b + h ≡ 365 * n + f + g → b + d + h' ≡ 365 * suc n + f' + g'
with_one b d h h' f f' g g' n p q = omega arith

pub years_counted : YearsCounted
unfolding before
years_counted zero = refl
years_counted (suc y) =
    let h : suc y + 99 ≡ y + 100 = omega arith in
    let f : suc y + 3 ≡ y + 4 = omega arith in
    let g : suc y + 399 ≡ y + 400 = omega arith in
    rw (h, f, g) (with_one _ _ _ _ _ _ _ _ y (step y) (years_counted y))

-- The count with four centuries more.
with_400 : (b c h h' f f' g g' n : ℕ) → b + h ≡ 365 * n + f + g → c + h' ≡ 365 * (n + 400) + f' + g'
    → h' ≡ h + 4 → f' ≡ f + 100 → g' ≡ g + 1 → c ≡ b + 146097
with_400 b c h h' f f' g g' n p q r s t = omega arith

pub four_centuries : FourCenturies
four_centuries y = with_400 _ _ _ _ _ _ _ _ y (years_counted y) (years_counted (y + 400)) (omega arith) (omega arith) (omega arith)

-- A later year begins at least 365 days later for each year between.
pub years_rise : (y k : ℕ) → before days_of y + 365 * k ≤ before days_of (y + k)
unfolding before
years_rise y zero = let z : y + 0 ≡ y = omega arith in rw z (omega arith)
years_rise y (suc k) =
    let s : y + suc k ≡ suc (y + k) = omega arith in
    rw s (omega (arith, years_rise y k, year_long (y + k)))
