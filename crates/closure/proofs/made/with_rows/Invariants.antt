-- `closure::made::with_rows` meets its contract. Assumes nothing.
use Rattle.plan.specs.APlan.{records_of}
use Rattle.tables.specs.Entries.{at}
use Rattle.closure.proofs.Coding.{RowsSofar}
use Rattle.closure.proofs.made.with_rows.Given as goal

abbrev pub invariant-loop-x : goal.invariant-loop-x
invariant-loop-x l = RowsSofar (records_of l.initial.made) l.n (at l.t) l.x l.made
