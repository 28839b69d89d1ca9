-- `explained::plainly` meets its contract. Assumes nothing.
use mathlib.Core.Path.{refl}
use Rattle.explained.proofs.plainly.Goals as goal

pub returns : goal.returns
returns c = rw (c.no_drives-drives.ensures, c.no_way-way.ensures) refl
