-- `feeding::put_tail` meets its contract. Assumes nothing.
use Rattle.feeding.proofs.Starting.{tail_none, tail_some}
use Rattle.feeding.proofs.begun.put_tail.Goals as goal

pub returns-then-left-eq0 : goal.returns-then-left-eq0
returns-then-left-eq0 c = tail_none _ _ _ c.if-left-eq0.true

pub returns : goal.returns
returns c = tail_some _ _ _ _ c.if-left-eq0.false c.tail_line.ensures c.put_line.ensures.made c.put_line.ensures.few
