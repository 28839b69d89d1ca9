-- `points::below` meets its contract. Assumes nothing.
use native.Mathlib.Nat.{min-eq_left, min-eq_right, le_of_lt}
use native.Mathlib.Omega.{arith}
use Rattle.points.specs.Sets.{below_of}
use Rattle.points.proofs.Shift.{one_shl}
use Rattle.points.proofs.below.Goals as goal

pub returns-then-n-lt-MOST : goal.returns-then-n-lt-MOST
unfolding below_of
returns-then-n-lt-MOST c = rw (min-eq_left (le_of_lt c.if-n-lt-MOST.true)) (omega (arith, one_shl _ c.if-n-lt-MOST.true))

pub returns-else-n-lt-MOST : goal.returns-else-n-lt-MOST
unfolding below_of
returns-else-n-lt-MOST c = rw (min-eq_right c.if-n-lt-MOST.false)
