-- `explained::explain_of` meets its contract. Assumes nothing.
use Rattle.explained.proofs.Explaining.{plain}
use Rattle.explained.proofs.explain_of.Goals as goal

pub of_cycle-requires : goal.of_cycle-requires
of_cycle-requires c = rw c.in-Cycle.is at c.test.ensures.answer

pub of_pair-requires : goal.of_pair-requires
of_pair-requires c = rw c.in-Pair.is at c.test.ensures.answer

pub returns-in_default : goal.returns-in_default
returns-in_default c = plain _ c.in_default.not-Cycle c.in_default.not-Pair c.test.ensures.answer c.plainly.ensures
