-- `history::each::all_in_bounds` meets its contract. Assumes nothing.
use mathlib.Core.Path.{sym, ◌∙◌}
use Rattle.history.proofs.Walks.{left_start, left_fails, left_turn, left_end}
use Rattle.history.proofs.each.all_in_bounds.Goals as goal

pub loop-i-init : goal.loop-i-init
loop-i-init c = (c.well_formed.1.1.1.0.1.0.1, left_start _ c.args.plan _ c.used-n.ensures c.well_formed.0.1.1.1.0.1.0.1)

pub returns-then-not-in_bounds : goal.returns-then-not-in_bounds
returns-then-not-in_bounds c =
    let l = c.loop-i in
    left_fails _ _ _ l.i l.invariant.1 c.loop-i-test.true (sym c.in_bounds.ensures ∙ c.if-not-in_bounds.true)

pub loop-i-preserved : goal.loop-i-preserved
loop-i-preserved c =
    let l = c.loop-i in
    (l.invariant.0, left_turn _ _ _ l.i l.invariant.1 c.loop-i-test.true (sym c.in_bounds.ensures ∙ c.if-not-in_bounds.false))

pub returns : goal.returns
returns c = left_end _ _ _ _ c.loop-i.invariant.1 c.loop-i-test.false
