-- `pairs::first_pair` meets its contract. Assumes nothing.
use Rattle.pairs.proofs.Searches.{found, next_row, clean_all}
use Rattle.pairs.proofs.first_pair.Goals as goal

pub returns-in-Some : goal.returns-in-Some
returns-in-Some c = found c.loop-x.invariant c.loop-x-test.true c.in-Some.ensures

pub loop-x-preserved : goal.loop-x-preserved
loop-x-preserved c = next_row c.loop-x.invariant c.loop-x-test.true c.in_default.ensures

pub returns : goal.returns
returns c = clean_all c.loop-x.invariant c.loop-x-test.false
