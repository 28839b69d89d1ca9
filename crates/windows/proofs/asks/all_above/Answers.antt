-- `windows::asks::all_above` meets its contract. Assumes nothing.
use Rattle.std.proofs.Common.{sym, ◌∙◌}
use Rattle.points.proofs.Walks.{every_passed, every_failed, every_done}
use Rattle.windows.proofs.asks.all_above.Invariants.{above}
use Rattle.windows.proofs.asks.all_above.Goals as goal

pub returns-then-not-is_above : goal.returns-then-not-is_above
returns-then-not-is_above c =
    let w = c.args.w in
    every_failed (above w.high w.lows) c.loop-p.invariant c.in-Some.ensures.steps.yields (sym c.is_above.ensures ∙ c.if-not-is_above.true)

pub loop-p-preserved : goal.loop-p-preserved
loop-p-preserved c =
    let w = c.args.w in
    every_passed (above w.high w.lows) c.loop-p.invariant c.in-Some.ensures.steps.yields (sym c.is_above.ensures ∙ c.if-not-is_above.false)

pub returns : goal.returns
returns c = every_done _ c.loop-p.invariant c.in-None.ensures.steps.yields.0
