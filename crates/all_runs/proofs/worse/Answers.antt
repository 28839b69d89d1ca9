-- `all_runs::worse` meets its contract. Assumes nothing.
use Rattle.all_runs.proofs.Searching.{is_worse, no_worse}
use native.Mathlib.Omega.{arith}
use Rattle.all_runs.proofs.worse.Goals as goal

pub returns-then-found-t : goal.returns-then-found-t
returns-then-found-t c = is_worse _ _ _ (omega (arith, c.if-found-t.true))

pub returns-else-found-t : goal.returns-else-found-t
returns-else-found-t c = no_worse _ _ _ (omega (arith, c.if-found-t.false))
