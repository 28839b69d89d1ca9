-- `vee::table::begin` meets its contract. Assumes nothing.
use Rattle.tables.proofs.Begins.{Diagonal}
use Rattle.tables.proofs.table.begin.Given as goal

abbrev pub invariant-loop-i : goal.invariant-loop-i
invariant-loop-i l = Diagonal l.i l.t
