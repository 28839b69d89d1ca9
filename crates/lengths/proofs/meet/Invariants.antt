-- `lengths::meet` meets its contract. Assumes nothing.
use Rattle.lengths.proofs.Meeting.{Meeting}
use Rattle.lengths.proofs.meet.Given as goal

abbrev pub invariant-loop-k : goal.invariant-loop-k
invariant-loop-k l = Meeting l.n l.fall l.rise l.x l.y l.k l.best
