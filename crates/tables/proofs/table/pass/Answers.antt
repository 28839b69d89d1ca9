-- `tables::table::pass` meets its contract. Assumes nothing.
use Rattle.tables.proofs.Rows.{pass_turn}
use Rattle.tables.proofs.table.pass.Goals as goal

pub loop-i-preserved : goal.loop-i-preserved
loop-i-preserved c = pass_turn _ _ _ _ _ _ c.requires c.loop-i.invariant c.loop-i-test.true _ c.step.ensures
