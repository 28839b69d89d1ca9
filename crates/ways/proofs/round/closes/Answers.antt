-- `ways::round::closes` meets its contract. Assumes nothing.
use mathlib.Core.Path.{refl}
use Rattle.ways.proofs.round.closes.Goals as goal

pub returns : goal.returns
returns c = rw c.from-back.ensures refl
