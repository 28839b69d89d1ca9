-- `dates::month_of` meets its contract. Assumes nothing.
use native.Mathlib.Omega.{arith}
use Rattle.dates.proofs.Days.{january, not_last}
use Rattle.dates.proofs.Passing.{turn}
use Rattle.dates.proofs.month_of.Goals as goal

pub loop-month_days-init : goal.loop-month_days-init
loop-month_days-init c = (record { counted = let z = january c.args.year in omega arith; days = c.days_in-month_days.ensures }, (omega arith, omega arith))

pub loop-month_days-preserved : goal.loop-month_days-preserved
loop-month_days-preserved c =
    let i = c.loop-month_days.invariant in
    let l = not_last _ _ _ _ i.0.counted (omega arith) (omega (arith, i.0.days)) i.1.1 in
    (turn i.0 (omega arith) c.days_in-month_days-in-loop-month_days.ensures, (omega arith, l))
