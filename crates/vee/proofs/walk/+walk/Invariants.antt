-- `vee::walk::walk` ends: the links still ahead fall. Assumes nothing.
use Rattle.vee.proofs.Walks.{Turning}
use Rattle.vee.proofs.walk.+walk.Given as goal

abbrev pub decreases-walk : goal.decreases-walk
decreases-walk l = l.ahead

abbrev pub invariant-loop-p : goal.invariant-loop-p
invariant-loop-p l = Turning l.sheet l.durations l.m l.n l.past l.ahead l.number l.p l.next
