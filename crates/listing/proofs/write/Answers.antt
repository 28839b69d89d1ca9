-- `listing::write` meets its contract. Assumes nothing.
use mathlib.Core.Path.{refl, ◌∙◌}
use native.Mathlib.Omega.{arith}
use Rattle.listing.proofs.Going.{wrote_start, none_bad, wrote_more, wrote_end}
use Rattle.listing.proofs.write.Goals as goal

pub loop-at-init : goal.loop-at-init
loop-at-init c = (refl, refl, wrote_start _ _ c.requires)

pub returns : goal.returns
returns c = wrote_end _ _ _ _ _ c.loop-at.invariant.2 (omega arith)

pub put_said-requires : goal.put_said-requires
put_said-requires c = (wrote_more _ _ _ _ _ c.loop-at.invariant.2 c.loop-at-test.true _ c.line_at-line.ensures _ c.in-Ok.is).fits

pub loop-at-smaller-in-Ok : goal.loop-at-smaller-in-Ok
loop-at-smaller-in-Ok c =
    let m = wrote_more _ _ _ _ _ c.loop-at.invariant.2 c.loop-at-test.true _ c.line_at-line.ensures _ c.in-Ok.is in
    omega (arith, m.past)

pub loop-at-preserved-in-Ok : goal.loop-at-preserved-in-Ok
loop-at-preserved-in-Ok c =
    let m = wrote_more _ _ _ _ _ c.loop-at.invariant.2 c.loop-at-test.true _ c.line_at-line.ensures _ c.in-Ok.is in
    let p = c.put_said in
    (refl, p.auto.out ∙ c.loop-at.invariant.1, m.next _ p.ensures p.auto.out _ c.one_if.ensures.0)

pub loop-at-smaller : goal.loop-at-smaller
loop-at-smaller c = absurd (none_bad _ _ _ _ _ c.loop-at.invariant.2 c.loop-at-test.true _ c.line_at-line.ensures _ c.in_default.is)

pub loop-at-preserved : goal.loop-at-preserved
loop-at-preserved c = absurd (none_bad _ _ _ _ _ c.loop-at.invariant.2 c.loop-at-test.true _ c.line_at-line.ensures _ c.in_default.is)
