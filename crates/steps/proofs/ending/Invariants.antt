-- `steps::ending` meets its contract. Assumes nothing.
use mathlib.Core.Path.{◌≡◌}
use Prim.Native.Nat.{◌-◌, ◌≤◌}
use Rattle.points.specs.Sets.{from}
use Rattle.plan.specs.Limits.{most_points}
use Rattle.promise.specs.Plays.{set_of}
use Rattle.steps.specs.Found.{ends_then}
use Rattle.steps.proofs.ending.Given as goal

abbrev pub invariant-loop-c : goal.invariant-loop-c
invariant-loop-c l = (l.c ≤ most_points) × (l.set ≡ set_of (ends_then l.kept l.starts l.durations l.t) (from l.c (most_points - l.c)))
