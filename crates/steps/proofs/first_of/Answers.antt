-- `steps::first_of` meets its contract. Assumes nothing.
use Rattle.steps.proofs.Nearest.{aim_first, end_first}
use native.Mathlib.Omega.{arith}
use Rattle.steps.proofs.first_of.Goals as goal

pub returns-then-aim-end : goal.returns-then-aim-end
returns-then-aim-end c = aim_first _ _ (omega (arith, c.if-aim-end.true))

pub returns-else-aim-end : goal.returns-else-aim-end
returns-else-aim-end c = end_first _ _ (omega (arith, c.if-aim-end.false))
