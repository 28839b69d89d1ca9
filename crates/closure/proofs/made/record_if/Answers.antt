-- `closure::made::record_if` meets its contract. Assumes nothing.
use Rattle.closure.proofs.made.record_if.Goals as goal

pub ordinary-requires : goal.ordinary-requires
ordinary-requires c = let q = c.requires in (q.0, q.1, q.2 c.if-so.true)

pub returns-then-so : goal.returns-then-so
returns-then-so c = rw c.if-so.true c.ordinary.ensures
