-- `kept::changes::running_of` meets its contract. Assumes nothing.
use Rattle.neighbours.proofs.Walking.{ahead_small, top_turn, top_end}
use Rattle.kept.proofs.changes.running_of.Goals as goal

pub row_at-requires : goal.row_at-requires
row_at-requires c = ahead_small c.loop-i.i-iterator c.in-Some.ensures.steps

pub loop-i-preserved : goal.loop-i-preserved
loop-i-preserved c = top_turn _ _ c.loop-i.invariant c.in-Some.ensures.steps (rw (c.run_now.ensures, c.row_at.ensures) at c.max-top.ensures)

pub returns : goal.returns
returns c = top_end _ _ c.loop-i.invariant c.in-None.ensures.steps.0
