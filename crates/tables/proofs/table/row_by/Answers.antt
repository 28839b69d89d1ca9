-- `tables::table::row_by` meets its contract. Assumes nothing.
use Rattle.tables.proofs.Rows.{make_start}
use Rattle.tables.proofs.table.row_by.Goals as goal

pub loop-j-init : goal.loop-j-init
loop-j-init g c = make_start _ _ _ _ c.requires.room.1
