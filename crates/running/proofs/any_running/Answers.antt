-- `running::any_running` meets its contract. Assumes nothing.
use Rattle.std.proofs.Common.{sym, ap, ◌∙◌, not}
use Rattle.points.proofs.Walks.{every_passed, every_failed, every_done}
use Rattle.running.proofs.any_running.Invariants.{idle}
use Rattle.running.proofs.any_running.Goals as goal

pub returns-then-is_running : goal.returns-then-is_running
returns-then-is_running c =
    let a = c.args in
    ap not (every_failed (idle a.links a.done) c.loop-p.invariant c.in-Some.ensures.steps.yields (ap not (sym c.is_running.ensures ∙ c.if-is_running.true)))

pub loop-p-preserved : goal.loop-p-preserved
loop-p-preserved c =
    let a = c.args in
    every_passed (idle a.links a.done) c.loop-p.invariant c.in-Some.ensures.steps.yields (ap not (sym c.is_running.ensures ∙ c.if-is_running.false))

pub returns : goal.returns
returns c = ap not (every_done _ c.loop-p.invariant c.in-None.ensures.steps.yields.0)
