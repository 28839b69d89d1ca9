-- `explained::drives::durations_of` meets its contract. Assumes nothing.
use Rattle.explained.proofs.Explaining.{count_asks, count_few, count_chooses}
use native.Mathlib.Omega.{arith}
use Rattle.explained.proofs.drives.durations_of.Goals as goal

pub projections-many-requires : goal.projections-many-requires
projections-many-requires c = count_asks c.requires

pub overflow_cast-many : goal.overflow_cast-many
overflow_cast-many c = omega (arith, count_few c.requires c.projections-many.ensures)

pub chosen-requires : goal.chosen-requires
chosen-requires c = count_chooses c.requires c.projections-many.ensures

pub returns : goal.returns
returns c = c.chosen.ensures
