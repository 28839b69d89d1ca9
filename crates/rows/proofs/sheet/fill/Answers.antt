-- `vee::sheet::fill` meets its contract. Assumes nothing.
use Rattle.rows.proofs.Lays.{filled}
use Rattle.rows.proofs.sheet.fill.Goals as goal

pub returns : goal.returns
returns c = filled c.requires c.draw.ensures c.close.ensures
