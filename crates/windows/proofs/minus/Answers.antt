-- `windows::minus` meets its contract. Assumes nothing.
use Rattle.windows.proofs.Removing.{minus}
use Rattle.windows.proofs.minus.Goals as goal

pub returns : goal.returns
returns c = minus _ _ c.ranges.s.fits c.ranges.t.fits
