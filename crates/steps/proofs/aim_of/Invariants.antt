-- `steps::aim_of` meets its contract. Assumes nothing.
use mathlib.Core.Path.{◌≡◌}
use Prim.Native.Nat.{◌-◌, ◌≤◌}
use Rattle.points.specs.Sets.{from}
use Rattle.plan.specs.Limits.{most_points}
use Rattle.steps.specs.Found.{nearest_from, nearest, low_by}
use Rattle.steps.proofs.aim_of.Given as goal

abbrev pub invariant-loop-q : goal.invariant-loop-q
invariant-loop-q l = (l.q ≤ most_points) × (nearest_from (low_by l.kept l.starts l.n) l.found (from l.q (most_points - l.q)) ≡ nearest (low_by l.kept l.starts l.n))
