-- `calls::all_unnumbered` meets its contract. Assumes nothing.
use mathlib.Core.Path.{◌≡◌}
use Prim.Native.Nat.{◌≤◌, ◌-◌}
use Rattle.points.specs.Sets.{from, every}
use Rattle.plan.specs.Limits.{most_points}
use Rattle.calls.specs.Calls.{unnumbered}
use Rattle.calls.proofs.all_unnumbered.Given as goal

abbrev pub invariant-loop-p : goal.invariant-loop-p
invariant-loop-p l =
    (l.p ≤ most_points) × (every (unnumbered l.done l.calls) (from l.p (most_points - l.p)) ≡ every (unnumbered l.done l.calls) (from 0 most_points))
