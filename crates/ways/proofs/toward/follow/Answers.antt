-- `ways::toward::follow` meets its contract. Assumes nothing.
use Rattle.ways.proofs.Following.{following_none, following_there, following_room, following_less, following_more, following_all}
use mathlib.Core.Path.{refl}
use native.Mathlib.Omega.{arith}
use Rattle.ways.proofs.toward.follow.Goals as goal

pub loop-here-init : goal.loop-here-init
loop-here-init c = following_none c.requires c.no_steps-steps.ensures

pub offset_bounds-order-here : goal.offset_bounds-order-here
offset_bounds-order-here c = omega (arith, following_there c.loop-here.invariant, c.loop-here.invariant.there)

pub bounds-order-here : goal.bounds-order-here
bounds-order-here c = omega (arith, following_there c.loop-here.invariant, c.loop-here.invariant.there)

pub offset_bounds-next-here : goal.offset_bounds-next-here
offset_bounds-next-here c = omega (arith, c.loop-here.invariant.there)

pub bounds-next-here : goal.bounds-next-here
bounds-next-here c = omega (arith, c.loop-here.invariant.there)

pub offset_bounds-steps-count : goal.offset_bounds-steps-count
offset_bounds-steps-count c = omega (arith, following_room c.loop-here.invariant (omega (arith, c.loop-here-test.true)))

pub bounds-steps-count : goal.bounds-steps-count
bounds-steps-count c = omega (arith, following_room c.loop-here.invariant (omega (arith, c.loop-here-test.true)))

pub overflow_add-count : goal.overflow_add-count
overflow_add-count c = omega (arith, following_room c.loop-here.invariant (omega (arith, c.loop-here-test.true)))

pub loop-here-smaller : goal.loop-here-smaller
loop-here-smaller c = following_less c.loop-here.invariant (omega (arith, c.loop-here-test.true)) refl

pub loop-here-preserved : goal.loop-here-preserved
loop-here-preserved c = following_more c.loop-here.invariant (omega (arith, c.loop-here-test.true)) refl refl refl

pub returns : goal.returns
returns c = following_all c.loop-here.invariant (λ h. omega (arith, c.loop-here-test.false))
