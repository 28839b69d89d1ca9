-- `buffers::digits_of` meets its contract. Assumes nothing.
use native.Mathlib.Omega.{arith}
use Rattle.lines.proofs.Adding.{few_digits}
use Rattle.buffers.proofs.Digits.{one_long, more_long}
use Rattle.buffers.proofs.digits_of.Goals as goal

pub loop-m-init : goal.loop-m-init
loop-m-init c = (c.ranges.n.fits, omega arith, few_digits c.args.n)

pub overflow_add-k : goal.overflow_add-k
overflow_add-k c = omega (arith, c.loop-m.invariant)

pub loop-m-preserved : goal.loop-m-preserved
loop-m-preserved c =
    let i = c.loop-m.invariant in
    let m = c.loop-m.m in
    let e = more_long m c.loop-m-test.true i.0 in
    (omega (arith, i.0), omega (arith, i.1, e), i.2)

pub returns : goal.returns
returns c = omega (arith, c.loop-m.invariant.1, one_long c.loop-m.m (omega (arith, c.loop-m-test.false)))
