-- `stream::front::read_front` meets its contract. Assumes nothing.
use Rattle.stream.proofs.Stages.{part_read}
use Rattle.stream.proofs.front.read_front.Goals as goal

pub returns : goal.returns
returns c =
    let s = c.args in
    part_read s.length s.front.now c.read.ensures c.within-n.ensures.least c.shown.ensures
