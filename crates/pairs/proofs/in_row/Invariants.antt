-- `pairs::in_row` meets its contract. Assumes nothing.
use Rattle.tables.specs.Entries.{at}
use Rattle.pairs.proofs.Searches.{Clean}
use Rattle.pairs.proofs.in_row.Given as goal

abbrev pub invariant-loop-y : goal.invariant-loop-y
invariant-loop-y l = Clean l.n (at l.all) (at l.ways) l.x l.y
