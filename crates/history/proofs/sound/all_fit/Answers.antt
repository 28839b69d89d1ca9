-- `history::sound::all_fit` meets its contract. Assumes nothing.
use native.Mathlib.Omega.{arith}
use mathlib.Core.Path.{refl, sym, ◌∙◌}
use Rattle.plan.specs.Limits.{most_points}
use Rattle.history.specs.History.{fits}
use Rattle.history.proofs.Walks.{points_fails, points_turn, points_end}
use Rattle.history.proofs.sound.all_fit.Goals as goal

pub loop-p-init : goal.loop-p-init
loop-p-init c = (omega arith, refl)

pub returns-then-not-fits_at : goal.returns-then-not-fits_at
returns-then-not-fits_at c =
    let i = c.loop-p.invariant in
    let f = sym c.fits_at.ensures ∙ c.if-not-fits_at.true in
    points_fails (fits c.args.clock c.args.done c.args.minutes) most_points _ c.loop-p-test.true f ∙ i.1

pub loop-p-preserved : goal.loop-p-preserved
loop-p-preserved c =
    let i = c.loop-p.invariant in
    let f = sym c.fits_at.ensures ∙ c.if-not-fits_at.false in
    (omega arith, sym (points_turn (fits c.args.clock c.args.done c.args.minutes) most_points _ c.loop-p-test.true f) ∙ i.1)

pub returns : goal.returns
returns c = points_end (fits c.args.clock c.args.done c.args.minutes) most_points _ c.loop-p-test.false ∙ c.loop-p.invariant.1
