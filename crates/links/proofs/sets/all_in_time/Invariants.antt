-- `links::sets::all_in_time` meets its contract: what is left is so where all are. Assumes nothing.
use Rattle.std.proofs.Common.{◌≡◌}
use Rattle.points.specs.Sets.{members_of, every}
use Rattle.links.specs.Inside.{timely_at}
use Rattle.links.proofs.sets.all_in_time.Given as goal

abbrev pub invariant-loop-p : goal.invariant-loop-p
invariant-loop-p l = every (timely_at l.minutes l.links l.t) l.p-iterator ≡ every (timely_at l.minutes l.links l.t) (members_of l.set)
