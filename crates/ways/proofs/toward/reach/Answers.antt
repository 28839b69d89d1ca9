-- `ways::toward::reach` meets its contract. Assumes nothing.
use Rattle.ways.proofs.Reaching.{reach_search, reaching_none, turn_asks, turn_room, turn_there, reaching_more, reached_all}
use mathlib.Core.Path.{refl, ap}
use Rattle.ways.specs.declared.steps.Step.{Step}
use native.Mathlib.Omega.{arith}
use Rattle.ways.proofs.toward.reach.Goals as goal

pub offset_bounds-order-y : goal.offset_bounds-order-y
offset_bounds-order-y c = omega (arith, c.requires.end, c.requires.ready.few)

pub bounds-order-y : goal.bounds-order-y
bounds-order-y c = omega (arith, c.requires.end, c.requires.ready.few)

pub search-k-requires : goal.search-k-requires
search-k-requires c = reach_search c.requires

pub loop-k-init : goal.loop-k-init
loop-k-init c = reaching_none c.requires refl c.no_steps-next.ensures c.search-k.ensures

pub overflow_mul-m : goal.overflow_mul-m
overflow_mul-m c = omega (arith, c.requires.ready.rows)

pub step_at-step-requires : goal.step_at-step-requires
step_at-step-requires c = turn_asks c.loop-k.invariant (omega (arith, c.loop-k-test.true))

pub overflow_add-count : goal.overflow_add-count
overflow_add-count c = omega (arith, turn_room c.loop-k.invariant (omega (arith, c.loop-k-test.true)))

pub offset_bounds-order-from : goal.offset_bounds-order-from
offset_bounds-order-from c = omega (arith, ap (λ (e : Step). e.from) c.step_at-step.ensures, turn_there c.loop-k.invariant (omega (arith, c.loop-k-test.true)))

pub bounds-order-from : goal.bounds-order-from
bounds-order-from c = omega (arith, ap (λ (e : Step). e.from) c.step_at-step.ensures, turn_there c.loop-k.invariant (omega (arith, c.loop-k-test.true)))

pub offset_bounds-next-from : goal.offset_bounds-next-from
offset_bounds-next-from c = omega (arith, ap (λ (e : Step). e.from) c.step_at-step.ensures, turn_there c.loop-k.invariant (omega (arith, c.loop-k-test.true)))

pub bounds-next-from : goal.bounds-next-from
bounds-next-from c = omega (arith, ap (λ (e : Step). e.from) c.step_at-step.ensures, turn_there c.loop-k.invariant (omega (arith, c.loop-k-test.true)))

pub search-k-requires-in-loop-k : goal.search-k-requires-in-loop-k
search-k-requires-in-loop-k c = reach_search c.requires

pub loop-k-smaller : goal.loop-k-smaller
loop-k-smaller c = omega (arith, turn_room c.loop-k.invariant (omega (arith, c.loop-k-test.true)))

pub loop-k-preserved : goal.loop-k-preserved
loop-k-preserved c = reaching_more c.loop-k.invariant (omega (arith, c.loop-k-test.true)) c.step_at-step.ensures refl refl refl c.search-k-in-loop-k.ensures

pub returns : goal.returns
returns c = reached_all c.loop-k.invariant (omega (arith, c.loop-k-test.false))
