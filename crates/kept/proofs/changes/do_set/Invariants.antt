-- `kept::changes::do_set` meets its contract: what is left of the set gives the whole answer. Assumes nothing.
use mathlib.Core.Path.{◌≡◌}
use Rattle.points.specs.Sets.{members_of}
use Rattle.kept.specs.Rooms.{all_done_by}
use Rattle.kept.proofs.changes.do_set.Given as goal

abbrev pub invariant-loop-p : goal.invariant-loop-p
invariant-loop-p l = all_done_by l.rows l.into l.out l.ends l.t l.n l.p-iterator l.kept ≡ all_done_by l.rows l.into l.out l.ends l.t l.n (members_of l.set) l.initial.kept
