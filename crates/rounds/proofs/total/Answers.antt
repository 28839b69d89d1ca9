-- `rounds::total` meets its contract. Assumes nothing.
use Rattle.rounds.proofs.Lowering.{sum_turn, sum_ended}
use Rattle.rounds.proofs.total.Goals as goal

pub loop-v-preserved : goal.loop-v-preserved
loop-v-preserved c = rw c.from-all.ensures (sum_turn _ _ _ c.requires c.loop-v-test.true c.loop-v.invariant)

pub returns : goal.returns
returns c = sum_ended _ _ _ c.requires c.loop-v-test.false c.loop-v.invariant
