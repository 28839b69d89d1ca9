-- `tables::table::row` meets its contract. Assumes nothing.
use Rattle.tables.proofs.Rows.{InRow}
use Rattle.tables.proofs.table.row.Given as goal

abbrev pub invariant-loop-j : goal.invariant-loop-j
invariant-loop-j l = InRow l.i l.b l.l l.initial.t l.j l.t
