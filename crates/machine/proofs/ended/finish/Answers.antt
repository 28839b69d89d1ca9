-- `machine::finish` meets its contract. Assumes nothing.
use mathlib.Core.Path.{refl, ap, ◌∙◌}
use native.Mathlib.Omega.{arith}
use borrow.Author.Tests.{not-true, not-false}
use Rattle.feeding.proofs.Starting.{last_of}
use Rattle.machine.specs.Feeds.{events_over_lem, refused_over}
use Rattle.machine.proofs.ended.finish.Goals as goal

pub plan_turn-read-requires : goal.plan_turn-read-requires
plan_turn-read-requires c = record { room = omega (arith, c.requires.0); last = λ e. c.requires.0; unread = not-true _ c.if-not-stage.true }

pub returns-then-not-stage : goal.returns-then-not-stage
returns-then-not-stage c = c.plan_turn-read.ensures.last refl

pub returns-then-stage-ne-ACCEPTED : goal.returns-then-stage-ne-ACCEPTED
returns-then-stage-ne-ACCEPTED c = refused_over (not-false _ c.if-not-stage.false) c.if-stage-ne-ACCEPTED.true

pub returns : goal.returns
returns c = events_over_lem (not-false _ c.if-not-stage.false) c.if-stage-ne-ACCEPTED.false (last_of _ _ _ c.read_front-again.ensures (rw c.plan_in.ensures at c.put_end.ensures))
