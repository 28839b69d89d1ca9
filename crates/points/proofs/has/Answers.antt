-- `points::has` meets its contract. Assumes nothing.
use mathlib.Core.Path.{refl, sym}
use Rattle.points.specs.Sets.{member}
use Rattle.points.proofs.Laws.{member_past}
use Rattle.points.proofs.has.Goals as goal

pub returns-then-p-lt-MOST : goal.returns-then-p-lt-MOST
unfolding member
returns-then-p-lt-MOST c = refl

pub returns-else-p-lt-MOST : goal.returns-else-p-lt-MOST
returns-else-p-lt-MOST c = sym (member_past _ _ c.ranges.s.fits c.if-p-lt-MOST.false)
