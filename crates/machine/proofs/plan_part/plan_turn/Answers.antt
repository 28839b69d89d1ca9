-- `machine::plan_part::plan_turn` meets its contract. Assumes nothing.
use borrow.Author.Tests.{not-true, not-false}
use Rattle.machine.proofs.Stages.{turned_on, turned_read}
use borrow.Author.Rules.{rules}
use Rattle.machine.proofs.plan_part.plan_turn.Goals as goal

pub returns-then-not-part : goal.returns-then-not-part
returns-then-not-part c = turned_on _ _ _ _ _ _ _ _ _ _ _ c.requires.unread _ _ c.keep_part-part.ensures (not-true _ c.if-not-part.true)

pub put_last-requires : goal.put_last-requires
put_last-requires c = λ e. let m = c.requires.last e in search (rules, c.begin_read-begun.ensures.few, c.requires.room, m)

pub shape_of-front : goal.shape_of-front
shape_of-front c = search (rules, c.front-1.given)

pub returns : goal.returns
returns c = turned_read _ _ _ _ _ _ _ _ _ _ _ c.requires.unread _ _ c.keep_part-part.ensures (not-false _ c.if-not-part.false) _ c.read_front-reading.ensures c.begin_read-begun.ensures.begun (rw c.plan_in-plan.ensures at c.put_last.ensures)
