-- `links::sets::all_running` meets its contract. Assumes nothing.
use Rattle.std.proofs.Common.{ap, not}
use borrow.Author.Tests.{not-true, not-false}
use Rattle.points.proofs.Walks.{every_passed, every_failed, every_done}
use Rattle.links.specs.Inside.{runs_at}
use Rattle.links.proofs.sets.all_running.Goals as goal

pub returns-then-not-has : goal.returns-then-not-has
returns-then-not-has c =
    let f = not-true _ (rw (c.has-in-loop-p-2.ensures, c.has-in-loop-p.ensures, c.has.ensures) at (ap not c.if-not-has.true)) in
    every_failed (runs_at c.args.done c.args.links) c.loop-p.invariant c.in-Some.ensures.steps.yields f

pub loop-p-preserved : goal.loop-p-preserved
loop-p-preserved c =
    let f = not-false _ (rw (c.has-in-loop-p-2.ensures, c.has-in-loop-p.ensures, c.has.ensures) at (ap not c.if-not-has.false)) in
    every_passed (runs_at c.args.done c.args.links) c.loop-p.invariant c.in-Some.ensures.steps.yields f

pub returns : goal.returns
returns c = every_done _ c.loop-p.invariant c.in-None.ensures.steps.yields.0
