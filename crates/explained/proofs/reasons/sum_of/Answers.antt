-- `explained::reasons::sum_of` meets its contract. Assumes nothing.
use Rattle.explained.proofs.Driving.{summing_none, summing_there, summing_more, summing_all}
use mathlib.Core.Path.{refl, ◌∙◌}
use native.Mathlib.Omega.{arith}
use Rattle.explained.proofs.reasons.sum_of.Goals as goal

pub loop-k-init : goal.loop-k-init
loop-k-init c = summing_none c.requires

pub offset_bounds-steps-k : goal.offset_bounds-steps-k
offset_bounds-steps-k c = omega (arith, summing_there c.loop-k.invariant (omega (arith, c.loop-k-test.true)))

pub bounds-steps-k : goal.bounds-steps-k
bounds-steps-k c = omega (arith, summing_there c.loop-k.invariant (omega (arith, c.loop-k-test.true)))

pub overflow_add-up : goal.overflow_add-up
overflow_add-up c = omega (arith, summing_there c.loop-k.invariant (omega (arith, c.loop-k-test.true)))

pub overflow_add-down : goal.overflow_add-down
overflow_add-down c = omega (arith, summing_there c.loop-k.invariant (omega (arith, c.loop-k-test.true)))

pub loop-k-preserved : goal.loop-k-preserved
loop-k-preserved c = summing_more c.loop-k.invariant (omega (arith, c.loop-k-test.true)) refl refl refl

pub returns : goal.returns
returns c = let s = summing_all c.loop-k.invariant (omega (arith, c.loop-k-test.false)) in c.length_of.ensures ∙ rw (s.0, s.1) refl
