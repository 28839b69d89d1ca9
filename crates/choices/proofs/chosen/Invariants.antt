-- `choices::chosen` meets its contract. Assumes nothing.
use Rattle.choices.proofs.Choosing.{Choosing}
use Rattle.choices.proofs.chosen.Given as goal

abbrev pub invariant-loop-k : goal.invariant-loop-k
invariant-loop-k l = Choosing l.sheet l.past l.links l.many l.number l.w l.rest l.left l.k
