-- `calendar::write_by` meets its contract. Assumes nothing.
use native.Mathlib.Omega.{arith}
use mathlib.Core.Path.{sym, ◌∙◌}
use Rattle.calendar.proofs.Writing.{of_each, refused_by_lem, no_origin_by, no_room_by, written_by}
use Rattle.calendar.proofs.write_by.Goals as goal

pub returns-then-found-ne-ACCEPTED : goal.returns-then-found-ne-ACCEPTED
returns-then-found-ne-ACCEPTED c =
    let a = c.args in
    of_each (λ p w. refused_by_lem w a.board a.origin a.out.now _ c.ended_by-found.ensures c.if-found-ne-ACCEPTED.true)

pub returns-then-not-is_origin : goal.returns-then-not-is_origin
returns-then-not-is_origin c =
    let a = c.args in
    let f = sym c.is_origin.ensures ∙ c.if-not-is_origin.true in
    rw c.refusal.ensures (of_each (λ p w. no_origin_by w a.board a.origin a.out.now _ c.ended_by-found.ensures c.if-found-ne-ACCEPTED.false f))

pub returns-then-out-text_length : goal.returns-then-out-text_length
returns-then-out-text_length c =
    let a = c.args in
    let f = sym c.is_origin.ensures ∙ c.if-not-is_origin.false in
    rw c.refusal-then-out-text_length.ensures (of_each (λ p w. no_room_by w a.board a.origin a.out.now _ c.ended_by-found.ensures c.if-found-ne-ACCEPTED.false f (omega (arith, c.if-out-text_length.true, c.text_length.ensures))))

pub returns : goal.returns
returns c =
    let a = c.args in
    let f = sym c.is_origin.ensures ∙ c.if-not-is_origin.false in
    of_each (λ p w. written_by w a.board a.origin a.out.now _ c.ended_by-found.ensures c.if-found-ne-ACCEPTED.false f (omega (arith, c.if-out-text_length.false, c.text_length.ensures)) c.put_calendar.ensures)
