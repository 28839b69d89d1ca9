-- `vee::table::begin` meets its contract. Assumes nothing.
use Rattle.tables.proofs.Begins.{start}
use Rattle.tables.proofs.table.begin.Goals as goal

pub loop-i-init : goal.loop-i-init
loop-i-init c = start _ c.clear.ensures
