-- `moments::put_moment` meets its contract. Assumes nothing.
use Rattle.buffers.proofs.Laying.{then}
use Rattle.moments.proofs.put_moment.Goals as goal

pub returns : goal.returns
returns c =
    let l1 = c.put-start.ensures in
    let l2 = c.put-end.ensures in
    let l3 = c.put.ensures in
    then (then l1 l2) l3
