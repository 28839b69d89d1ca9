-- `rounds::total` meets its contract. Assumes nothing.
use Rattle.rounds.proofs.Lowering.{Summing}
use Rattle.rounds.proofs.total.Given as goal

abbrev pub invariant-loop-v : goal.invariant-loop-v
invariant-loop-v l = Summing l.t l.v-index l.all
