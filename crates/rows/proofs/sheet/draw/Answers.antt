-- `vee::sheet::draw` meets its contract. Assumes nothing.
use Rattle.rows.proofs.Lays.{none_yet}
use native.Mathlib.Omega.{arith}
use Rattle.rows.proofs.sheet.draw.Goals as goal

pub loop-q-init : goal.loop-q-init
loop-q-init c = (omega arith, none_yet _ _ _ _ _ c.requires.few c.begin.ensures)
