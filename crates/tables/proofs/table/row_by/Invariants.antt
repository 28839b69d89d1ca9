-- `tables::table::row_by` meets its contract. Assumes nothing.
use Rattle.tables.proofs.Rows.{Making}
use Rattle.tables.proofs.table.row_by.Given as goal

abbrev pub invariant-loop-j : goal.invariant-loop-j
invariant-loop-j g l = Making (goal.F-post g l.f) l.n l.k l.t l.j l.l
