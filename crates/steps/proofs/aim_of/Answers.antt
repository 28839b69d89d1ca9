-- `steps::aim_of` meets its contract. Assumes nothing.
use mathlib.Core.Path.{refl}
use Prim.Native.Nat.{◌-◌}
use Rattle.steps.specs.Found.{low_by}
use Rattle.steps.proofs.Nearest.{nearest_turn, nearest_end}
use native.Mathlib.Omega.{arith}
use Rattle.steps.proofs.aim_of.Goals as goal

pub loop-q-init : goal.loop-q-init
loop-q-init c = (omega arith, refl)

pub loop-q-preserved : goal.loop-q-preserved
loop-q-preserved c =
    let i = c.loop-q.invariant in
    (omega arith, nearest_turn _ _ _ (omega arith) (rw c.low_by.ensures at c.nearer-found.ensures) i.1)

pub returns : goal.returns
returns c = nearest_end _ _ _ c.loop-q-test.false c.loop-q.invariant.1
