-- `projection_runs::run` meets its contract. Assumes nothing.
use Prim.Native.Nat.{◌-◌}
use Rattle.projection_runs.specs.Coded.{lent}
use Rattle.projection_runs.proofs.Going.{Going}
use Rattle.projection_runs.proofs.run.Given as goal

abbrev pub invariant-loop-kept : goal.invariant-loop-kept
invariant-loop-kept l = Going (lent l.sheet l.into l.out l.ends l.initial.kept l.starts) l.n l.durations l.initial.log l.log l.kept l.minute l.k

abbrev pub decreases-loop-kept : goal.decreases-loop-kept
decreases-loop-kept l = l.n - l.k
