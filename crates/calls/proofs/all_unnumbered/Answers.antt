-- `calls::all_unnumbered` meets its contract. Assumes nothing.
use native.Mathlib.Omega.{arith}
use mathlib.Core.Path.{refl, sym, ◌∙◌}
use borrow.Author.Tests.{not-true, not-false}
use Rattle.plan.specs.Limits.{most_points}
use Rattle.history.proofs.Walks.{points_fails, points_turn, points_end}
use Rattle.calls.specs.Calls.{unnumbered}
use mathlib.Core.Path.{ap}
use mathlib.Core.Bool.{not}
use Rattle.calls.proofs.all_unnumbered.Goals as goal

pub loop-p-init : goal.loop-p-init
loop-p-init c = (omega arith, refl)

pub returns-then-not-has-calls : goal.returns-then-not-has-calls
returns-then-not-has-calls c =
    let a = c.args in
    let i = c.loop-p.invariant in
    let f = not-true _ (rw c.has.ensures at (ap not c.if-not-has-calls.true)) in
    points_fails (unnumbered a.done a.calls) most_points _ c.loop-p-test.true f ∙ i.1

pub loop-p-preserved : goal.loop-p-preserved
loop-p-preserved c =
    let a = c.args in
    let i = c.loop-p.invariant in
    (omega arith, sym (points_turn (unnumbered a.done a.calls) most_points _ c.loop-p-test.true (not-false _ (rw c.has.ensures at (ap not c.if-not-has-calls.false)))) ∙ i.1)

pub returns : goal.returns
returns c =
    let a = c.args in
    points_end (unnumbered a.done a.calls) most_points _ c.loop-p-test.false ∙ c.loop-p.invariant.1
