-- `dates::days_before` meets its contract. Assumes nothing.
use mathlib.Core.Path.{refl}
use native.Mathlib.Omega.{arith}
use Rattle.dates.specs.Gregorian.{days_in}
use Rattle.dates.specs.Counting.{before}
use Rattle.dates.proofs.Days.{length_of_lem}
use Rattle.dates.proofs.Sums.{next_part}
use Rattle.dates.proofs.days_before.Goals as goal

pub loop-k-init : goal.loop-k-init
unfolding before
loop-k-init c = (omega arith, (refl, omega arith))

pub overflow_add-n : goal.overflow_add-n
overflow_add-n c = let l = (length_of_lem c.args.year c.loop-k.k).most in omega (arith, c.days_in-n.ensures)

pub loop-k-preserved : goal.loop-k-preserved
loop-k-preserved c =
    let l = (length_of_lem c.args.year c.loop-k.k).most in
    let s = next_part (days_in c.args.year) c.loop-k.k in
    (omega arith, (omega (arith, c.days_in-n.ensures), omega (arith, c.days_in-n.ensures)))
