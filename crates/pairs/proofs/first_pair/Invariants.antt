-- `pairs::first_pair` meets its contract. Assumes nothing.
use Rattle.pairs.proofs.Searches.{CleanRows}
use Rattle.tables.specs.Entries.{at}
use Rattle.pairs.proofs.first_pair.Given as goal

abbrev pub invariant-loop-x : goal.invariant-loop-x
invariant-loop-x l = CleanRows l.n (at l.all) (at l.ways) l.x
