-- `rounds::round` meets its contract. Assumes nothing.
use native.Mathlib.Omega.{arith}
use Rattle.rounds.proofs.Rounding.{round_turn}
use Rattle.rounds.proofs.round.Goals as goal

pub loop-q-preserved : goal.loop-q-preserved
loop-q-preserved c = (omega arith, round_turn _ _ _ _ _ _ _ _ c.loop-q.invariant.1 c.loop-q-test.true c.ease.ensures)
