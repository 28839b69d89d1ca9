-- `machine::feed` meets its contract. Assumes nothing.
use mathlib.Core.Path.{refl, sym}
use native.Mathlib.Omega.{arith}
use borrow.Author.Tests.{not-true, not-false}
use Rattle.history.proofs.Tests.{clash}
use Rattle.machine.specs.Feeds.{events, refused}
use Rattle.machine.proofs.Stages.{feeds_within}
use Rattle.machine.proofs.pieces.feed.Goals as goal

pub plan_turn-requires : goal.plan_turn-requires
plan_turn-requires c = record { room = c.requires; last = λ e. clash (sym e); unread = not-true _ c.if-not-stage.true }

pub returns-then-not-stage : goal.returns-then-not-stage
returns-then-not-stage c = let f = c.plan_turn.ensures.on refl in record { fed = f; within = feeds_within _ f }

pub returns-then-stage-ne-ACCEPTED : goal.returns-then-stage-ne-ACCEPTED
returns-then-stage-ne-ACCEPTED c = record { fed = refused (not-false _ c.if-not-stage.false) c.if-stage-ne-ACCEPTED.true; within = omega arith }

pub returns : goal.returns
returns c =
    let e = c.put_events-said.ensures in
    record { fed = events (not-false _ c.if-not-stage.false) c.if-stage-ne-ACCEPTED.false e; within = omega (arith, e.used, e.within) }
