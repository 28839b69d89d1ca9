-- `buffers::put_numbered` meets its contract. Assumes nothing.
use Rattle.lines.specs.Text.{decimal}
use Rattle.buffers.proofs.Laying.{then, room_first, room_behind}
use Rattle.buffers.proofs.put_numbered.Goals as goal

pub put-number-requires : goal.put-number-requires
put-number-requires c = room_first (decimal c.args.n) c.requires

pub put_number-requires : goal.put_number-requires
put_number-requires c = room_behind c.requires c.put-number.ensures

pub returns : goal.returns
returns c = then c.put-number.ensures c.put_number.ensures
