-- `dates::year_of` meets its contract. Assumes nothing.
use native.Mathlib.Omega.{arith}
use Rattle.dates.proofs.Days.{year_long}
use Rattle.dates.proofs.Passing.{turn}
use Rattle.dates.proofs.year_of.Goals as goal

pub loop-year_days-smaller : goal.loop-year_days-smaller
loop-year_days-smaller c = let l = year_long c.loop-year_days.year in omega (arith, c.loop-year_days.invariant.0.days)

pub loop-year_days-preserved : goal.loop-year_days-preserved
loop-year_days-preserved c =
    let l = year_long c.loop-year_days.year in
    let i = c.loop-year_days.invariant in
    (turn i.0 (omega arith) c.days_of-year_days-in-loop-year_days.ensures, omega (arith, i.0.days))
