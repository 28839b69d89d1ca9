-- `lengths::length_from` meets its contract. Assumes nothing.
use Rattle.lengths.proofs.Meeting.{length_there, length_none}
use native.Mathlib.Omega.{arith}
use Rattle.lengths.proofs.length_from.Goals as goal

pub returns-then-v-lt-NEVER : goal.returns-then-v-lt-NEVER
returns-then-v-lt-NEVER c = length_there _ (omega (arith, c.if-v-lt-NEVER.true)) c.length_of.ensures

pub returns-else-v-lt-NEVER : goal.returns-else-v-lt-NEVER
returns-else-v-lt-NEVER c = length_none c.args.v (omega (arith, c.if-v-lt-NEVER.false))
