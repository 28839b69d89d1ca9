-- `lines::with_word` meets its contract. Assumes nothing.
use mathlib.Core.Path.{◌∙◌}
use Rattle.lines.proofs.Adding.{room_here, room_on_byte, with_byte_on, with_nothing, no_letter, more_letters}
use native.Mathlib.Omega.{arith}
use Rattle.lines.proofs.with_word.Goals as goal

pub bounds-next-at : goal.bounds-next-at
bounds-next-at c =
    let l = c.loop-left in
    let e = more_letters l.left c.loop-left-test.true l.invariant.0 in
    omega (arith, room_here l.next _ _ _ e l.invariant.1)

pub loop-left-preserved : goal.loop-left-preserved
loop-left-preserved c =
    let l = c.loop-left in
    let e = more_letters l.left c.loop-left-test.true l.invariant.0 in
    (omega (arith, l.invariant.0), room_on_byte l.next _ _ _ e l.invariant.1, with_byte_on l.next _ _ _ e l.invariant.1 ∙ l.invariant.2)

pub returns : goal.returns
returns c =
    let l = c.loop-left in
    with_nothing l.next l.invariant.1.whole ∙ rw (c.loop-left-test.false, no_letter) at l.invariant.2
