-- `lighter::lighter_of` meets its contract. Assumes nothing.
use mathlib.Core.Logic.{inl, inr}
use Rattle.lighter.proofs.Answering.{answers_refused, answers_asks, answers_made, answers_cycle, answers_pair}
use Rattle.lighter.proofs.lighter_of.Goals as goal

pub drop_all-requires : goal.drop_all-requires
drop_all-requires c = answers_asks (rw c.in-Yes.is at c.test.ensures.answer)

pub returns-in-Refused : goal.returns-in-Refused
returns-in-Refused c = answers_refused (rw c.in-Refused.is at c.test.ensures.answer)

pub returns-in-Yes : goal.returns-in-Yes
returns-in-Yes c = answers_made (rw c.in-Yes.is at c.test.ensures.answer) c.drop_all.ensures

pub returns-in-Cycle : goal.returns-in-Cycle
returns-in-Cycle c = elim c.in-Cycle.is [
  | inl e ↦ answers_cycle (rw e.1 at c.test.ensures.answer)
  | inr e ↦ answers_pair (rw e.3 at c.test.ensures.answer)
]
