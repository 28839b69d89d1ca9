-- `all_runs::worst_run` meets its contract. Assumes nothing.
use mathlib.Core.Path.{◌≡◌}
use Prim.Native.Nat.{◌+◌, ◌-◌, ◌*◌}
use lib.ListN.{length}
use Rattle.plan.specs.Limits.{most_points, record_bytes}
use Rattle.all_runs.proofs.Searching.{Searching}
use Rattle.all_runs.proofs.worst_run.Given as goal

abbrev pub invariant-loop-i : goal.invariant-loop-i
invariant-loop-i l =
    (l.past ≡ l.n + l.links) × (length l.log ≡ record_bytes * most_points) × Searching l.sheet l.m l.n l.links l.many l.found l.i

abbrev pub decreases-loop-i : goal.decreases-loop-i
decreases-loop-i l = l.many - l.i
