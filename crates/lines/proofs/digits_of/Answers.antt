-- `lines::digits_of` meets its contract. Assumes nothing.
use Rattle.lines.proofs.Adding.{first_digit, more_left, next_digit, all_digits_lem}
use native.Mathlib.Omega.{arith}
use Rattle.lines.proofs.digits_of.Goals as goal

pub loop-left-init : goal.loop-left-init
loop-left-init c = rw c.last_digit.ensures (first_digit c.args.n c.ranges.n.fits)

pub overflow_sub-from-in-loop-left : goal.overflow_sub-from-in-loop-left
overflow_sub-from-in-loop-left c =
    let w = c.loop-left.invariant in
    omega (arith, more_left _ _ _ _ w c.loop-left-test.true)

pub bounds-digits-from-in-loop-left : goal.bounds-digits-from-in-loop-left
bounds-digits-from-in-loop-left c =
    let w = c.loop-left.invariant in
    omega (arith, more_left _ _ _ _ w c.loop-left-test.true, w.within, w.long)

pub loop-left-smaller : goal.loop-left-smaller
loop-left-smaller c = omega (arith, c.loop-left-test.true)

pub loop-left-preserved : goal.loop-left-preserved
loop-left-preserved c = rw c.last_digit-in-loop-left.ensures (next_digit _ _ _ _ c.loop-left.invariant c.loop-left-test.true)

pub returns : goal.returns
returns c =
    let w = c.loop-left.invariant in
    record { within = omega (arith, w.within); long = w.long; same = all_digits_lem _ _ _ _ w c.loop-left-test.false }
