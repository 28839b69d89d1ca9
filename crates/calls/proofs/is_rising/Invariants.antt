-- `calls::is_rising` meets its contract. Assumes nothing.
use mathlib.Core.Path.{◌≡◌}
use Prim.Native.Nat.{◌≤◌, ◌-◌}
use Rattle.points.specs.Sets.{from, every}
use Rattle.plan.specs.Limits.{most_points}
use Rattle.calls.specs.Inside.{rises, rising}
use Rattle.calls.proofs.is_rising.Given as goal

abbrev pub invariant-loop-i : goal.invariant-loop-i
invariant-loop-i l = (l.k ≤ most_points) × (l.last ≡ l.k - 1) × (every (rises l.noted) (from l.i (l.k - 1 - l.i)) ≡ rising l.noted l.k)
