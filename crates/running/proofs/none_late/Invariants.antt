-- `running::none_late` meets its contract: what is left is so where all are. Assumes nothing.
use Rattle.std.proofs.Common.{◌≡◌}
use Rattle.points.specs.Sets.{members_of, every}
use Rattle.running.specs.ByTable.{not_late_at}
use Rattle.running.proofs.none_late.Given as goal

abbrev pub invariant-loop-p : goal.invariant-loop-p
invariant-loop-p l = every (not_late_at l.links l.done l.minutes l.t l.set) l.p-iterator ≡ every (not_late_at l.links l.done l.minutes l.t l.set) (members_of l.links.watched)
