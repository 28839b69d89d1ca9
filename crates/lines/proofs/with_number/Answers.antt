-- `lines::with_number` meets its contract. Assumes nothing.
use mathlib.Core.Path.{◌∙◌}
use Rattle.lines.proofs.Adding.{room_here, room_on_byte, with_byte_on, next_of, none_of, with_nothing}
use native.Mathlib.Omega.{arith}
use Rattle.lines.proofs.with_number.Goals as goal

pub loop-i-init : goal.loop-i-init
loop-i-init c =
    let d = c.digits_of-spelt.ensures in
    (d.within, d.long, rw d.same c.requires, rw d.same)

pub bounds-next-at : goal.bounds-next-at
bounds-next-at c =
    let l = c.loop-i in
    let ds = c.digits_of-spelt.result.digits in
    let e = next_of ds l.i (omega (arith, c.loop-i-test.true, l.invariant.1)) in
    omega (arith, room_here l.next _ _ _ e l.invariant.2)

pub overflow_add-next : goal.overflow_add-next
overflow_add-next c =
    let l = c.loop-i in
    let ds = c.digits_of-spelt.result.digits in
    let e = next_of ds l.i (omega (arith, c.loop-i-test.true, l.invariant.1)) in
    omega (arith, room_here l.next _ _ _ e l.invariant.2)

pub loop-i-preserved : goal.loop-i-preserved
loop-i-preserved c =
    let l = c.loop-i in
    let ds = c.digits_of-spelt.result.digits in
    let e = next_of ds l.i (omega (arith, c.loop-i-test.true, l.invariant.1)) in
    (omega (arith, c.loop-i-test.true), l.invariant.1, room_on_byte l.next _ _ _ e l.invariant.2, with_byte_on l.next _ _ _ e l.invariant.2 ∙ l.invariant.3)

pub returns : goal.returns
returns c =
    let l = c.loop-i in
    let ds = c.digits_of-spelt.result.digits in
    let e = none_of ds l.i (omega (arith, c.loop-i-test.false, l.invariant.1)) in
    with_nothing l.next l.invariant.2.whole ∙ rw e at l.invariant.3
