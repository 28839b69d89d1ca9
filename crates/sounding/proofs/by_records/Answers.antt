-- `sounding::by_records` meets its contract. Assumes nothing.
use mathlib.Core.Bool.{◌&&◌}
use Rattle.sounding.proofs.by_records.Goals as goal

pub returns : goal.returns
returns c =
    let e = rw c.first_points.ensures at c.sound_else.ensures in
    λ i. e i && (c.all_in_bounds.ensures i && c.all_earlier.ensures i)
