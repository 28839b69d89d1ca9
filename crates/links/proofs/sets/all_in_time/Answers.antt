-- `links::sets::all_in_time` meets its contract. Assumes nothing.
use Rattle.std.proofs.Common.{sym, ◌∙◌}
use Rattle.points.proofs.Walks.{every_passed, every_failed, every_done}
use Rattle.links.specs.Inside.{timely_at}
use Rattle.links.proofs.sets.all_in_time.Goals as goal

pub returns-then-not-is_timely : goal.returns-then-not-is_timely
returns-then-not-is_timely c =
    let f = rw c.minute_at.ensures at (sym c.is_timely.ensures ∙ c.if-not-is_timely.true) in
    every_failed (timely_at c.args.minutes c.args.links c.args.t) c.loop-p.invariant c.in-Some.ensures.steps.yields f

pub loop-p-preserved : goal.loop-p-preserved
loop-p-preserved c =
    let f = rw c.minute_at.ensures at (sym c.is_timely.ensures ∙ c.if-not-is_timely.false) in
    every_passed (timely_at c.args.minutes c.args.links c.args.t) c.loop-p.invariant c.in-Some.ensures.steps.yields f

pub returns : goal.returns
returns c = every_done _ c.loop-p.invariant c.in-None.ensures.steps.yields.0
