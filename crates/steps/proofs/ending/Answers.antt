-- `steps::ending` meets its contract. Assumes nothing.
use mathlib.Core.Path.{refl}
use Prim.Native.Nat.{◌-◌}
use Rattle.points.specs.Sets.{from}
use Rattle.promise.specs.Plays.{set_of}
use Rattle.steps.proofs.Nearest.{set_turn, set_end}
use native.Mathlib.Omega.{arith}
use Rattle.steps.proofs.ending.Goals as goal

pub loop-c-init : goal.loop-c-init
unfolding set_of from
loop-c-init c = (omega arith, refl)

pub end_by-end-requires : goal.end_by-end-requires
end_by-end-requires c = omega (arith, c.loop-c.invariant.0)

pub loop-c-preserved : goal.loop-c-preserved
loop-c-preserved c = (omega arith, set_turn _ _ (omega arith) (omega arith) c.loop-c.invariant.1 (rw c.end_by-end.ensures at c.with_if-set.ensures))

pub returns : goal.returns
returns c = set_end _ _ (omega arith) c.loop-c.invariant.1
