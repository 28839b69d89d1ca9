-- `dates::month_of` meets its contract. Assumes nothing.
use Prim.Native.Nat.{◌-◌, ◌≤◌}
use Rattle.dates.specs.Gregorian.{days_in}
use Rattle.dates.proofs.Passing.{Passing}
use Rattle.dates.proofs.month_of.Given as goal

abbrev pub invariant-loop-month_days : goal.invariant-loop-month_days
invariant-loop-month_days l = Passing (days_in l.year) l.days l.month l.left l.month_days × ((1 ≤ l.month) × (l.month ≤ 12))

abbrev pub decreases-loop-month_days : goal.decreases-loop-month_days
decreases-loop-month_days l = 13 - l.month
