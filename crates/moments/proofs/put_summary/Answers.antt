-- `moments::put_summary` meets its contract. Assumes nothing.
use Rattle.buffers.proofs.Laying.{then}
use Rattle.moments.proofs.Parts.{summary_laid}
use Rattle.moments.proofs.put_summary.Goals as goal

pub returns : goal.returns
returns c =
    let s = c.args in
    summary_laid s.p s.code (then (then c.put_numbered-pond.ensures c.put_numbered-end.ensures) c.put.ensures)
