-- `lines::digits_of` meets its contract. Assumes nothing.
use Rattle.lines.proofs.Adding.{Sofar}
use Rattle.lines.proofs.digits_of.Given as goal

abbrev pub invariant-loop-left : goal.invariant-loop-left
invariant-loop-left l = Sofar l.n l.digits l.left l.from

abbrev pub decreases-loop-left : goal.decreases-loop-left
decreases-loop-left l = l.left
