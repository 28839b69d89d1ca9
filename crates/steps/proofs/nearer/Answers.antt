-- `steps::nearer` meets its contract. Assumes nothing.
use Rattle.steps.proofs.Nearest.{is_sooner, no_sooner}
use native.Mathlib.Omega.{arith}
use Rattle.steps.proofs.nearer.Goals as goal

pub returns-then-t-found : goal.returns-then-t-found
returns-then-t-found c = is_sooner _ _ _ (omega (arith, c.if-t-found.true))

pub returns-else-t-found : goal.returns-else-t-found
returns-else-t-found c = no_sooner _ _ _ (omega (arith, c.if-t-found.false))
