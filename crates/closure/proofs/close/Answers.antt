-- `closure::close` meets its contract. Assumes nothing.
use Rattle.closure.proofs.Closes.{close_refused_lem, few_records, close_steps, fill_ready, few_points, points_ready, close_cycle, close_far, close_made}
use mathlib.Core.Path.{ap}
use mathlib.Core.Bool.{not}
use Rattle.closure.proofs.close.Goals as goal

pub returns-then-found-ne-ACCEPTED : goal.returns-then-found-ne-ACCEPTED
returns-then-found-ne-ACCEPTED c = close_refused_lem _ c.check-found.ensures c.if-found-ne-ACCEPTED.true

pub has_steps-requires : goal.has_steps-requires
has_steps-requires c = few_records _ c.check-found.ensures c.if-found-ne-ACCEPTED.false

pub returns-then-has_steps : goal.returns-then-has_steps
returns-then-has_steps c = close_steps _ c.check-found.ensures c.if-found-ne-ACCEPTED.false c.has_steps.ensures c.if-has_steps.true c.refuse.ensures

pub lay_out-requires : goal.lay_out-requires
lay_out-requires c = few_records _ c.check-found.ensures c.if-found-ne-ACCEPTED.false

pub fill-requires : goal.fill-requires
fill-requires c = fill_ready _ c.check-found.ensures c.if-found-ne-ACCEPTED.false c.has_steps.ensures c.if-has_steps.false (c.well_formed.0.1.1.1.0.1.0.1) c.lay_out.ensures c.points_of-n.ensures

pub returns-then-not-fill : goal.returns-then-not-fill
returns-then-not-fill c = close_cycle _ c.check-found.ensures c.if-found-ne-ACCEPTED.false c.has_steps.ensures c.if-has_steps.false (c.well_formed.0.1.1.1.0.1.0.1) c.lay_out.ensures c.points_of-n.ensures c.fill.ensures (ap not c.if-not-fill.true) c.refuse-then-not-fill.ensures

pub some_far-requires : goal.some_far-requires
some_far-requires c = few_points _ c.check-found.ensures c.if-found-ne-ACCEPTED.false c.has_steps.ensures c.if-has_steps.false (c.well_formed.0.1.1.1.0.1.0.1) c.lay_out.ensures c.points_of-n.ensures

pub returns-then-some_far : goal.returns-then-some_far
returns-then-some_far c = close_far _ c.check-found.ensures c.if-found-ne-ACCEPTED.false c.has_steps.ensures c.if-has_steps.false (c.well_formed.0.1.1.1.0.1.0.1) c.lay_out.ensures c.points_of-n.ensures c.fill.ensures (ap not c.if-not-fill.false) c.some_far.ensures c.if-some_far.true c.refuse-then-some_far.ensures

pub made_plan-made-requires : goal.made_plan-made-requires
made_plan-made-requires c = points_ready _ c.check-found.ensures c.if-found-ne-ACCEPTED.false c.has_steps.ensures c.if-has_steps.false (c.well_formed.0.1.1.1.0.1.0.1) c.lay_out.ensures c.points_of-n.ensures

pub returns : goal.returns
returns c = close_made _ c.check-found.ensures c.if-found-ne-ACCEPTED.false c.has_steps.ensures c.if-has_steps.false (c.well_formed.0.1.1.1.0.1.0.1) c.lay_out.ensures c.points_of-n.ensures c.fill.ensures (ap not c.if-not-fill.false) c.some_far.ensures c.if-some_far.false c.made_plan-made.ensures
