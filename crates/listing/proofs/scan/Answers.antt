-- `listing::scan` meets its contract. Assumes nothing.
use mathlib.Core.Path.{refl}
use native.Mathlib.Omega.{arith}
use Rattle.listing.proofs.Going.{counted_start, counted_bad, counted_more, counted_end}
use Rattle.listing.proofs.scan.Goals as goal

pub loop-at-init : goal.loop-at-init
loop-at-init c = (refl, counted_start _)

pub overflow_add-lines : goal.overflow_add-lines
overflow_add-lines c =
    let i = c.loop-at.invariant.1.goes in
    omega (arith, i.low, i.within)

pub returns : goal.returns
returns c = counted_end _ _ _ _ c.loop-at.invariant.1 (omega arith)

pub returns-in-Err : goal.returns-in-Err
returns-in-Err c = counted_bad _ _ _ _ c.loop-at.invariant.1 c.loop-at-test.true _ c.line_at-line.ensures _ c.in-Err.is

pub loop-at-smaller : goal.loop-at-smaller
loop-at-smaller c =
    let m = counted_more _ _ _ _ c.loop-at.invariant.1 c.loop-at-test.true _ c.line_at-line.ensures _ c.in-Ok.is _ c.one_if-records.ensures.0 in
    omega (arith, m.past)

pub loop-at-preserved : goal.loop-at-preserved
loop-at-preserved c =
    let m = counted_more _ _ _ _ c.loop-at.invariant.1 c.loop-at-test.true _ c.line_at-line.ensures _ c.in-Ok.is _ c.one_if-records.ensures.0 in
    (refl, m.next)
