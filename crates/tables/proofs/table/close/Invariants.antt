-- `tables::table::close` meets its contract. Assumes nothing.
use Rattle.tables.proofs.Closings.{Shutting}
use Rattle.tables.proofs.table.close.Given as goal

abbrev pub invariant-loop-k : goal.invariant-loop-k
invariant-loop-k l = Shutting l.n l.initial.t l.k l.t
