-- `board::Board::take` meets its contract. Assumes nothing.
use native.Mathlib.Omega.{arith}
use mathlib.Core.Path.{sym, ◌∙◌}
use borrow.Author.Tests.{eq-eqb, ne_eqb}
use Rattle.links.proofs.Linking.{known}
use Rattle.board.specs.Events.{take_of}
use Rattle.board.proofs.Opening.{given}
use Rattle.board.proofs.Linked.{sound_known, ready_known}
use Rattle.board.proofs.ByPlan.{taken_known}
use Rattle.board.proofs.Streaming.{take_is_next}
use Rattle.board.proofs.Theorems.Soundness.{HeldBoard}
use Rattle.board.proofs.Board.take.Goals as goal

pub returns-then-found-ne-ACCEPTED : goal.returns-then-found-ne-ACCEPTED
unfolding take_of
returns-then-found-ne-ACCEPTED c =
    let e = rw c.check-found.ensures at (ne_eqb _ _ c.if-found-ne-ACCEPTED.true) in
    rw e (rw c.check-found.ensures at c.answer.ensures)

pub links_by-links-requires : goal.links_by-links-requires
links_by-links-requires c = known _ _ c.check-found.ensures c.if-found-ne-ACCEPTED.false

pub returns-then-not-is_sound_by : goal.returns-then-not-is_sound_by
unfolding take_of
returns-then-not-is_sound_by c =
    let e = rw c.check-found.ensures at (eq-eqb _ _ c.if-found-ne-ACCEPTED.false) in
    rw (e, sound_known c.args.plan (rw c.check-found.ensures at c.if-found-ne-ACCEPTED.false) _ c.links_by-links.ensures c.args.self _ _ c.is_sound_by.ensures (c.if-not-is_sound_by.true)) c.answer-then-not-is_sound_by.ensures

pub windows_of-w-requires : goal.windows_of-w-requires
windows_of-w-requires c =
    let a = c.args in
    given a.plan a.self _ (omega (arith, c.well_formed.0.1.1.1.0.1)) (ready_known a.plan _ c.check-found.ensures c.if-found-ne-ACCEPTED.false _ c.links_by-links.ensures a.self _ c.is_sound_by.ensures (c.if-not-is_sound_by.false))

pub returns : goal.returns
returns c =
    let a = c.args in
    let r = ready_known a.plan _ c.check-found.ensures c.if-found-ne-ACCEPTED.false _ c.links_by-links.ensures a.self _ c.is_sound_by.ensures (c.if-not-is_sound_by.false) in
    let g = c.well_formed.0.1.1.1 in
    let held : HeldBoard a.self = record { room = g.1.0.1.0.1; done = omega (arith, g.0.1); calls = g.1.1.0.1.0.1 } in
    taken_known a.plan a.self _ r held _ c.windows_of-w.ensures a.event.now _ c.take_from.ensures.taken ∙ sym (take_is_next a.plan a.self a.event.now r.accepted r.sound)
