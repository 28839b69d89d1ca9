-- `moments::put_uid` meets its contract. Assumes nothing.
use Rattle.buffers.proofs.Laying.{then}
use Rattle.moments.proofs.Parts.{uid_laid}
use Rattle.moments.proofs.put_uid.Goals as goal

pub returns : goal.returns
returns c =
    let s = c.args in
    uid_laid s.p s.moment (then c.put_numbered-hyphen.ensures c.put_moment.ensures)
