-- `kept::changes::do_one` meets its contract. Assumes nothing.
use native.Mathlib.Omega.{arith}
use Rattle.kept.proofs.Sets.{one_done, none_done}
use Rattle.kept.proofs.changes.do_one.Goals as goal

pub returns-then-p-lt-MOST : goal.returns-then-p-lt-MOST
returns-then-p-lt-MOST c = one_done _ _ _ _ _ _ _ _ _ (omega (arith, c.if-p-lt-MOST.true)) c.do_point.ensures

pub returns-else-p-lt-MOST : goal.returns-else-p-lt-MOST
returns-else-p-lt-MOST c = none_done _ _ _ _ _ _ c.args.p _ (omega (arith, c.if-p-lt-MOST.false))
