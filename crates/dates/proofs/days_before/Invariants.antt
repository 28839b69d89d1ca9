-- `dates::days_before` meets its contract. Assumes nothing.
use mathlib.Core.Path.{◌≡◌}
use Prim.Native.Nat.{◌*◌, ◌≤◌}
use Rattle.dates.specs.Gregorian.{days_in}
use Rattle.dates.specs.Counting.{before}
use Rattle.dates.proofs.days_before.Given as goal

abbrev pub invariant-loop-k : goal.invariant-loop-k
invariant-loop-k l = (l.k ≤ l.month) × ((l.n ≡ before (days_in l.year) l.k) × (l.n ≤ 31 * l.k))
