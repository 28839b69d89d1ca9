-- `steps::end_of` meets its contract. Assumes nothing.
use mathlib.Core.Path.{refl}
use Prim.Native.Nat.{◌-◌}
use Rattle.steps.specs.Found.{end_by}
use Rattle.steps.proofs.Nearest.{nearest_turn, nearest_end}
use native.Mathlib.Omega.{arith}
use Rattle.steps.proofs.end_of.Goals as goal

pub loop-c-init : goal.loop-c-init
loop-c-init c = (omega arith, refl)

pub loop-c-preserved : goal.loop-c-preserved
loop-c-preserved c =
    let i = c.loop-c.invariant in
    (omega arith, nearest_turn _ _ _ (omega arith) (rw c.end_by.ensures at c.nearer-found.ensures) i.1)

pub returns : goal.returns
returns c = nearest_end _ _ _ c.loop-c-test.false c.loop-c.invariant.1
