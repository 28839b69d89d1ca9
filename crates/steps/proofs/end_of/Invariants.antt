-- `steps::end_of` meets its contract. Assumes nothing.
use mathlib.Core.Path.{◌≡◌}
use Prim.Native.Nat.{◌-◌, ◌≤◌}
use Rattle.points.specs.Sets.{from}
use Rattle.plan.specs.Limits.{most_points}
use Rattle.steps.specs.Found.{nearest_from, nearest, end_by}
use Rattle.steps.proofs.end_of.Given as goal

abbrev pub invariant-loop-c : goal.invariant-loop-c
invariant-loop-c l = (l.c ≤ most_points) × (nearest_from (end_by l.kept l.starts l.durations) l.found (from l.c (most_points - l.c)) ≡ nearest (end_by l.kept l.starts l.durations))
