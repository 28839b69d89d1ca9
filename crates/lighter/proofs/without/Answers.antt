-- `lighter::without` meets its contract. Assumes nothing.
use native.Mathlib.Omega.{arith}
use Rattle.lighter.proofs.Copying.{one_below, in_plan, copied_none, copied_more, copied_all}
use Rattle.lighter.proofs.without.Goals as goal

pub overflow_sub-n : goal.overflow_sub-n
overflow_sub-n c = omega (arith, c.one_if.ensures, one_below c.args.at c.args.plan.count)

pub loop-i-init : goal.loop-i-init
loop-i-init c = copied_none (c.well_formed.0.1.1.1.0.1.0.1) c.requires (rw c.one_if.ensures.0) c.no_records-records.ensures

pub overflow_add-r : goal.overflow_add-r
overflow_add-r c = let v = c.loop-i.invariant in omega (arith, v.few, v.long, v.room, c.one_if-in-loop-i.ensures.0, in_plan _ _ _ _ v.many c.loop-i-test.true)

pub offset_bounds-plan-i : goal.offset_bounds-plan-i
offset_bounds-plan-i c = let v = c.loop-i.invariant in omega (arith, v.few, v.long, v.room, c.one_if-in-loop-i.ensures.0, in_plan _ _ _ _ v.many c.loop-i-test.true)

pub bounds-plan-i : goal.bounds-plan-i
bounds-plan-i c = let v = c.loop-i.invariant in omega (arith, v.few, v.long, v.room, c.one_if-in-loop-i.ensures.0, in_plan _ _ _ _ v.many c.loop-i-test.true)

pub offset_bounds-records-i : goal.offset_bounds-records-i
offset_bounds-records-i c = let v = c.loop-i.invariant in omega (arith, v.few, v.room, v.many, c.loop-i-test.true)

pub bounds-records-i : goal.bounds-records-i
bounds-records-i c = let v = c.loop-i.invariant in omega (arith, v.few, v.room, v.many, c.loop-i-test.true)

pub overflow_step-i : goal.overflow_step-i
overflow_step-i c = let v = c.loop-i.invariant in omega (arith, v.few, v.room, v.many, c.loop-i-test.true)

pub loop-i-smaller : goal.loop-i-smaller
loop-i-smaller c = let v = c.loop-i.invariant in omega (arith, v.few, v.room, v.many, c.loop-i-test.true)

pub loop-i-preserved : goal.loop-i-preserved
loop-i-preserved c = copied_more c.loop-i.invariant c.loop-i-test.true c.one_if-in-loop-i.ensures.0

pub overflow_cast-result : goal.overflow_cast-result
overflow_cast-result c = let v = c.loop-i.invariant in omega (arith, v.few, v.many)

pub returns : goal.returns
returns c = copied_all c.loop-i.invariant c.loop-i-test.false
