-- `tables::table::pass` meets its contract. Assumes nothing.
use Rattle.tables.proofs.Rows.{Rows}
use Rattle.tables.proofs.table.pass.Given as goal

abbrev pub invariant-loop-i : goal.invariant-loop-i
invariant-loop-i l = Rows l.n l.k l.l l.initial.t l.i l.t
