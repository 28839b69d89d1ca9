-- `rounds::settle` meets its contract. Assumes nothing.
use Rattle.rounds.proofs.Rounding.{settle_turn, settled}
use Rattle.rounds.proofs.settle.Goals as goal

pub loop-more-preserved : goal.loop-more-preserved
loop-more-preserved c = settle_turn _ _ _ _ _ _ _ _ _ c.loop-more.invariant c.round.ensures c.total-after.ensures

pub returns : goal.returns
returns c = settled _ _ _ _ _ _ _ c.loop-more-test.false c.loop-more.invariant
