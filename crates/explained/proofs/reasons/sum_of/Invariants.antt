-- `explained::reasons::sum_of` meets its contract. Assumes nothing.
use Rattle.explained.proofs.Driving.{Summing}
use Rattle.explained.proofs.reasons.sum_of.Given as goal

abbrev pub invariant-loop-k : goal.invariant-loop-k
invariant-loop-k l = Summing l.count l.steps l.k l.up l.down
