-- `planless::later_from` meets its contract. Assumes nothing.
use native.Mathlib.Omega.{arith}
use Rattle.events.proofs.Forming.{formed_length}
use Rattle.planless.proofs.Numbering.{not_formed, formed}
use Rattle.planless.proofs.later_from.Goals as goal

pub returns-then-not-is_formed : goal.returns-then-not-is_formed
returns-then-not-is_formed c = not_formed _ _ _ _ _ _ _ _ c.is_formed.ensures (c.if-not-is_formed.true) c.new.ensures

pub event_in-e-requires : goal.event_in-e-requires
event_in-e-requires c =
    let f = rw c.is_formed.ensures at (c.if-not-is_formed.false) in
    let s = c.args in
    omega (arith, formed_length s.links.points s.event.now f)

pub returns : goal.returns
returns c =
    let e = c.event_in-e.ensures.0 in
    let n = rw (c.point_number-last.ensures, c.latest_from.ensures, e) at c.set_number_of-number.ensures in
    formed _ _ _ _ _ _ _ _ c.is_formed.ensures (c.if-not-is_formed.false) _ _ n (rw e at c.record_beside.ensures) c.new-2.ensures
