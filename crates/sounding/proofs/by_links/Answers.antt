-- `sounding::by_links` meets its contract. Assumes nothing.
use mathlib.Core.Bool.{◌&&◌}
use Rattle.sounding.specs.ByLinks.{sound_by}
use Rattle.sounding.proofs.by_links.Goals as goal

pub returns : goal.returns
unfolding sound_by
returns c = let e = rw c.first_points.ensures at c.sound_else.ensures in λ i. e i && c.all_sound.ensures i
