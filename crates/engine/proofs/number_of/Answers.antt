-- `engine::number_of` meets its contract. Assumes nothing.
use Rattle.engine.proofs.Reading.{unnamed, formed_28, named}
use Rattle.engine.proofs.number_of.Goals as goal

pub returns-then-found-ne-NOT_OPEN : goal.returns-then-found-ne-NOT_OPEN
returns-then-found-ne-NOT_OPEN c =
    let a = c.args in
    unnamed a.links a.rows.now a.out.now a.kept.now a.event.now _ c.board_of-board.ensures _ c.bare_windows-w.ensures _ c.number_from-found.ensures c.if-found-ne-NOT_OPEN.true

pub event_in-e-requires : goal.event_in-e-requires
event_in-e-requires c =
    let a = c.args in
    formed_28 a.links a.rows.now a.out.now a.kept.now a.event.now _ c.board_of-board.ensures _ c.bare_windows-w.ensures _ c.number_from-found.ensures c.if-found-ne-NOT_OPEN.false

pub returns : goal.returns
returns c =
    let a = c.args in
    let e = c.event_in-e.ensures.0 in
    named a.links a.rows.now a.out.now a.kept.now a.event.now _ c.board_of-board.ensures _ c.bare_windows-w.ensures _ c.number_from-found.ensures c.if-found-ne-NOT_OPEN.false
    _ (rw e at c.named_at-named.ensures) _ (rw e at c.record_beside.ensures) _ c.refusal.ensures
