-- `closure::made::bits_of` meets its contract. Assumes nothing.
use native.Mathlib.Omega.{arith}
use Rattle.closure.proofs.Coding.{bound_below, bound_above}
use Rattle.closure.proofs.made.bits_of.Goals as goal

pub returns-then-v-lt-BIAS : goal.returns-then-v-lt-BIAS
returns-then-v-lt-BIAS c = bound_below c.args.v (omega arith)

pub returns-else-v-lt-BIAS : goal.returns-else-v-lt-BIAS
returns-else-v-lt-BIAS c = bound_above c.args.v (omega arith) (omega arith)
