-- `dropping::fits` meets its contract. Assumes nothing.
use Rattle.dropping.proofs.Fitting.{fits_cycle, fits_judged, fits_far, fits_good, fits_no_cycle, fits_no_pair}
use native.Mathlib.Omega.{arith}
use mathlib.Core.Path.{ap}
use mathlib.Core.Bool.{not}
use Rattle.dropping.proofs.fits.Goals as goal

pub returns-then-not-fill : goal.returns-then-not-fill
returns-then-not-fill c = fits_cycle c.requires c.fill.ensures (ap not c.if-not-fill.true)

pub returns-then-most-all : goal.returns-then-most-all
returns-then-most-all c = fits_far c.requires c.fill.ensures (ap not c.if-not-fill.false) (omega (arith, c.if-most-all.true))

pub judge_by-requires : goal.judge_by-requires
judge_by-requires c = fits_judged c.requires c.fill.ensures (ap not c.if-not-fill.false)

pub returns-in-Good : goal.returns-in-Good
returns-in-Good c = fits_good c.requires c.fill.ensures (ap not c.if-not-fill.false) (omega (arith, c.if-most-all.false)) (rw c.in-Good.is at c.judge_by.ensures)

pub returns-in-Cycle : goal.returns-in-Cycle
returns-in-Cycle c = fits_no_cycle c.requires c.fill.ensures (ap not c.if-not-fill.false) (rw c.in-Cycle.is at c.judge_by.ensures)

pub returns-in-Pair : goal.returns-in-Pair
returns-in-Pair c = fits_no_pair c.requires c.fill.ensures (ap not c.if-not-fill.false) (rw c.in-Pair.is at c.judge_by.ensures)
