-- `rounds::settle` meets its contract. Assumes nothing.
use Rattle.rounds.proofs.Rounding.{Settling, left}
use Rattle.rounds.proofs.settle.Given as goal

abbrev pub invariant-loop-more : goal.invariant-loop-more
invariant-loop-more l = Settling l.sheet l.durations l.m l.n l.t l.before l.more

abbrev pub decreases-loop-more : goal.decreases-loop-more
decreases-loop-more l = left l.more l.before
