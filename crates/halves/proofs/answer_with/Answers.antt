-- `halves::answer_with` meets its contract. Assumes nothing.
use borrow.Author.Tests.{eq-eqb, ne_eqb}
use Rattle.halves.proofs.answer_with.Goals as goal

pub returns-then-number-eq-ACCEPTED : goal.returns-then-number-eq-ACCEPTED
returns-then-number-eq-ACCEPTED c = rw (eq-eqb _ _ c.if-number-eq-ACCEPTED.true) c.answer.ensures

pub returns-else-number-eq-ACCEPTED : goal.returns-else-number-eq-ACCEPTED
returns-else-number-eq-ACCEPTED c = rw (ne_eqb _ _ c.if-number-eq-ACCEPTED.false) c.answer-else-number-eq-ACCEPTED.ensures
