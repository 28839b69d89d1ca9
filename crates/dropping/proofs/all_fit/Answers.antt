-- `dropping::all_fit` meets its contract. Assumes nothing.
use Rattle.dropping.proofs.Fitting.{sofar_none, sofar_choose, sofar_fits, sofar_no, sofar_more, sofar_all}
use native.Mathlib.Omega.{arith}
use mathlib.Core.Path.{ap}
use mathlib.Core.Bool.{not}
use Rattle.dropping.proofs.all_fit.Goals as goal

pub overflow_add-past : goal.overflow_add-past
overflow_add-past c = omega (arith, c.requires.walk.rows, c.requires.walk.ready.rows)

pub loop-i-init : goal.loop-i-init
loop-i-init c = sofar_none c.requires

pub chosen-w-requires : goal.chosen-w-requires
chosen-w-requires c = sofar_choose c.loop-i.invariant (omega (arith, c.loop-i-test.true))

pub fits-requires : goal.fits-requires
fits-requires c = sofar_fits c.loop-i.invariant (omega (arith, c.loop-i-test.true)) c.chosen-w.ensures

pub returns-then-not-fits : goal.returns-then-not-fits
returns-then-not-fits c = sofar_no c.loop-i.invariant (omega (arith, c.loop-i-test.true)) c.chosen-w.ensures _ (ap not c.if-not-fits.true) c.fits.ensures

pub loop-i-preserved : goal.loop-i-preserved
loop-i-preserved c = sofar_more c.loop-i.invariant (omega (arith, c.loop-i-test.true)) c.chosen-w.ensures _ (ap not c.if-not-fits.false) c.fits.ensures

pub returns : goal.returns
returns c = sofar_all c.loop-i.invariant (omega (arith, c.loop-i-test.false))
