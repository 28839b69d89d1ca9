-- `running::none_late` meets its contract. Assumes nothing.
use Rattle.points.proofs.Walks.{every_passed, every_failed, every_done}
use Rattle.running.specs.ByTable.{not_late_at}
use Rattle.running.proofs.none_late.Goals as goal

pub returns-then-not-not_late : goal.returns-then-not-not_late
returns-then-not-not_late c =
    let a = c.args in
    every_failed (not_late_at a.links a.done a.minutes a.t a.set) c.loop-p.invariant c.in-Some.ensures.steps.yields (rw (c.not_late.ensures, c.minute_at.ensures) at c.if-not-not_late.true)

pub loop-p-preserved : goal.loop-p-preserved
loop-p-preserved c =
    let a = c.args in
    every_passed (not_late_at a.links a.done a.minutes a.t a.set) c.loop-p.invariant c.in-Some.ensures.steps.yields (rw (c.not_late.ensures, c.minute_at.ensures) at c.if-not-not_late.false)

pub returns : goal.returns
returns c = every_done _ c.loop-p.invariant c.in-None.ensures.steps.yields.0
