-- `lines::state_by` meets its contract. Assumes nothing.
use Rattle.lines.proofs.WholeLine.{nine_fit}
use Rattle.lines.proofs.shapes.state_by.Goals as goal

pub long_line-requires : goal.long_line-requires
long_line-requires c =
    let s = c.args in
    nine_fit s.word s.a s.b s.what s.n s.kind s.x s.y s.z c.ranges.a.fits c.ranges.b.fits c.ranges.n.fits
