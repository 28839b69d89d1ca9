-- `projection_runs::run` meets its contract. Assumes nothing.
use Prim.Native.Nat.{◌-◌}
use Rattle.projection_runs.proofs.Going.{going_start, going_few, going_room, going_less, going_turn, going_end}
use native.Mathlib.Omega.{arith}
use Rattle.projection_runs.proofs.run.Goals as goal

pub loop-kept-init : goal.loop-kept-init
loop-kept-init c = going_start _ _ _ _

pub overflow_mul-k : goal.overflow_mul-k
overflow_mul-k c = omega (arith, going_few c.loop-kept.invariant c.first_points-all.ensures c.requires)

pub put-requires : goal.put-requires
put-requires c = going_room c.loop-kept.invariant c.first_points-all.ensures c.requires c.loop-kept-test.true

pub overflow_add-k : goal.overflow_add-k
overflow_add-k c = omega (arith, going_few c.loop-kept.invariant c.first_points-all.ensures c.requires)

pub loop-kept-smaller : goal.loop-kept-smaller
loop-kept-smaller c = omega (arith, going_less c.loop-kept.invariant c.first_points-all.ensures c.requires c.loop-kept-test.true)

pub loop-kept-preserved : goal.loop-kept-preserved
loop-kept-preserved c =
    going_turn
    c.loop-kept.invariant
    c.first_points-all.ensures
    c.loop-kept-test.true
    c.next_event-e.ensures
    c.event_bytes.ensures
    c.put.ensures
    c.do_event.ensures
    c.put.auto.out
    (omega arith)

pub overflow_cast-result : goal.overflow_cast-result
overflow_cast-result c = omega (arith, going_few c.loop-kept.invariant c.first_points-all.ensures c.requires)

pub shape_of-log : goal.shape_of-log
shape_of-log c = c.loop-kept.invariant.same

pub returns : goal.returns
returns c = going_end c.loop-kept.invariant c.first_points-all.ensures c.loop-kept-test.false
