-- `links::sets::all_running` meets its contract: what is left is so where all are. Assumes nothing.
use Rattle.std.proofs.Common.{◌≡◌}
use Rattle.points.specs.Sets.{members_of, every}
use Rattle.links.specs.Inside.{runs_at}
use Rattle.links.proofs.sets.all_running.Given as goal

abbrev pub invariant-loop-p : goal.invariant-loop-p
invariant-loop-p l = every (runs_at l.done l.links) l.p-iterator ≡ every (runs_at l.done l.links) (members_of l.set)
