-- `lines::line_of` meets its contract. Assumes nothing.
use Rattle.lines.proofs.WholeLine.{five_fit}
use Rattle.lines.proofs.line_of.Goals as goal

pub long_line-requires : goal.long_line-requires
long_line-requires c = five_fit _ _ c.requires
