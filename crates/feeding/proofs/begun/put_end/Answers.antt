-- `feeding::put_end` meets its contract. Assumes nothing.
use Rattle.std.proofs.Common.{arith}
use Rattle.feeding.proofs.Starting.{end_by_lem}
use Rattle.feeding.proofs.begun.put_end.Goals as goal

pub put_line-requires : goal.put_line-requires
put_line-requires c = omega (arith, c.put_tail-end.ensures.few, c.put_tail-end.ensures.made.long, c.requires)

pub returns : goal.returns
returns c = end_by_lem _ _ _ _ _ _ _ c.put_tail-end.ensures c.board_of.ensures c.end_line.ensures c.put_line.ensures.made
