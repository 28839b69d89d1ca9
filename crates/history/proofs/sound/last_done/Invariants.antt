-- `history::sound::last_done` meets its contract: with what is left it is the largest of all. Assumes nothing.
use Rattle.std.proofs.Common.{◌≡◌, max}
use Rattle.points.specs.Sets.{members_of}
use Rattle.history.specs.History.{largest}
use Rattle.history.proofs.sound.last_done.Given as goal

abbrev pub invariant-loop-p : goal.invariant-loop-p
invariant-loop-p l = max l.last (largest l.minutes l.p-iterator) ≡ largest l.minutes (members_of l.done)
