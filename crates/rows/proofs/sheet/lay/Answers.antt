-- `vee::sheet::lay` meets its contract. Assumes nothing.
use Rattle.rows.proofs.Lays.{put_row}
use mathlib.Core.Path.{refl}
use Rattle.rows.proofs.sheet.lay.Goals as goal

pub returns : goal.returns
returns c = put_row _ _ _ _ _ _ c.requires c.row_at-row.ensures refl refl refl c.put.ensures
