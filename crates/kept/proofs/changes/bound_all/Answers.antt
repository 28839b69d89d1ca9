-- `kept::changes::bound_all` meets its contract. Assumes nothing.
use Rattle.neighbours.proofs.Walking.{ahead_small, over_turn, over_end}
use Rattle.kept.proofs.changes.bound_all.Goals as goal

pub row_at-requires : goal.row_at-requires
row_at-requires c = ahead_small c.loop-i.i-iterator c.in-Some.ensures.steps

pub loop-i-preserved : goal.loop-i-preserved
loop-i-preserved c = over_turn _ c.loop-i.invariant c.in-Some.ensures.steps (rw c.row_at.ensures at c.bound.ensures)

pub returns : goal.returns
returns c = over_end _ c.loop-i.invariant c.in-None.ensures.steps.0
