-- `kept::changes::remake_all` meets its contract. Assumes nothing.
use Rattle.neighbours.proofs.Walking.{ahead_small, over_turn, over_end}
use Rattle.kept.proofs.changes.remake_all.Goals as goal

pub remake-requires : goal.remake-requires
remake-requires c = ahead_small c.loop-i.i-iterator c.in-Some.ensures.steps

pub loop-i-preserved : goal.loop-i-preserved
loop-i-preserved c = over_turn _ c.loop-i.invariant c.in-Some.ensures.steps c.remake.ensures

pub returns : goal.returns
returns c = over_end _ c.loop-i.invariant c.in-None.ensures.steps.0
