-- `dates::year_of` meets its contract. Assumes nothing.
use Prim.Native.Nat.{◌+◌, ◌≤◌}
use Rattle.dates.specs.Counting.{before, days_of}
use Rattle.dates.proofs.Passing.{Passing}
use Rattle.dates.proofs.year_of.Given as goal

abbrev pub invariant-loop-year_days : goal.invariant-loop-year_days
invariant-loop-year_days l = Passing days_of (before days_of l.from + l.days) l.year l.left l.year_days × (l.year + l.left ≤ l.from + l.days)

abbrev pub decreases-loop-year_days : goal.decreases-loop-year_days
decreases-loop-year_days l = l.left
