-- `running::all_sound` meets its contract: what is left is so where all are. Assumes nothing.
use Rattle.std.proofs.Common.{◌≡◌}
use Rattle.points.specs.Sets.{members_of, every}
use Rattle.running.specs.ByTable.{sound_at}
use Rattle.running.proofs.all_sound.Given as goal

abbrev pub invariant-loop-p : goal.invariant-loop-p
invariant-loop-p l = every (sound_at l.links l.clock l.done l.minutes l.calls) l.p-iterator ≡ every (sound_at l.links l.clock l.done l.minutes l.calls) (members_of l.links.watched)
