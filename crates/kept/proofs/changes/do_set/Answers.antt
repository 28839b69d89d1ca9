-- `kept::changes::do_set` meets its contract. Assumes nothing.
use Rattle.kept.proofs.Sets.{set_turn, set_end}
use Rattle.kept.proofs.changes.do_set.Goals as goal

pub loop-p-preserved : goal.loop-p-preserved
loop-p-preserved c = rw c.do_point.ensures (set_turn _ _ _ _ _ _ _ c.loop-p.invariant _ _ c.in-Some.ensures.steps.yields)

pub returns : goal.returns
returns c = set_end _ _ _ _ _ _ _ c.loop-p.invariant c.in-None.ensures.steps.yields.0
