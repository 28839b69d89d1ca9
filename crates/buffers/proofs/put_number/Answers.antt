-- `buffers::put_number` meets its contract. Assumes nothing.
use native.Mathlib.Omega.{arith}
use Rattle.buffers.proofs.Digits.{some_long, stored_start, stored_more, stored_turn, stored_end}
use Rattle.buffers.proofs.put_number.Goals as goal

pub overflow_sub-i : goal.overflow_sub-i
overflow_sub-i c = omega (arith, c.digits_of.ensures, some_long c.args.n)

pub loop-m-init : goal.loop-m-init
loop-m-init c = rw c.digits_of.ensures (stored_start c.args.out.now c.args.at c.args.n c.ranges.n.fits c.requires)

pub bounds-out-i : goal.bounds-out-i
bounds-out-i c =
    let s = c.loop-m.invariant in
    omega (arith, s.long, s.room, s.inside)

pub overflow_sub-i-in-loop-m : goal.overflow_sub-i-in-loop-m
overflow_sub-i-in-loop-m c = stored_more c.loop-m.invariant c.loop-m-test.true

pub loop-m-preserved : goal.loop-m-preserved
loop-m-preserved c = stored_turn c.loop-m.invariant c.loop-m-test.true

pub bounds-out-i-2 : goal.bounds-out-i-2
bounds-out-i-2 c =
    let s = c.loop-m.invariant in
    omega (arith, s.long, s.room, s.inside)

pub returns : goal.returns
returns c = stored_end c.loop-m.invariant (omega (arith, c.loop-m-test.false))
