-- `engine::take` meets its contract. Assumes nothing.
use Rattle.engine.proofs.Reading.{formed, takes, refuses}
use Rattle.engine.proofs.take.Goals as goal

pub event_in-e-requires : goal.event_in-e-requires
event_in-e-requires c = let a = c.args in formed a.links a.rows.now a.into.now a.out.now a.ends.now a.kept.now a.event.now _ c.number_of-found.ensures c.if-found-eq-ACCEPTED.true

pub returns-then-found-eq-ACCEPTED : goal.returns-then-found-eq-ACCEPTED
returns-then-found-eq-ACCEPTED c =
    let a = c.args in
    takes a.links a.rows.now a.into.now a.out.now a.ends.now a.kept.now a.event.now _ c.number_of-found.ensures _ c.if-found-eq-ACCEPTED.true c.event_in-e.ensures.1 (rw c.event_in-e.ensures.0 at c.do_event.ensures)

pub returns-else-found-eq-ACCEPTED : goal.returns-else-found-eq-ACCEPTED
returns-else-found-eq-ACCEPTED c =
    let a = c.args in
    refuses a.links a.rows.now a.into.now a.out.now a.ends.now a.kept.now a.event.now _ c.number_of-found.ensures c.if-found-eq-ACCEPTED.false
