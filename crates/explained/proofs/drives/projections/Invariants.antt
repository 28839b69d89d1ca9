-- `explained::drives::projections` meets its contract. Assumes nothing.
use Rattle.vee.proofs.Counts.{Counting}
use Rattle.explained.proofs.drives.projections.Given as goal

abbrev pub invariant-loop-k : goal.invariant-loop-k
invariant-loop-k l = Counting l.sheet l.past l.links l.k l.total
