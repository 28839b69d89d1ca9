-- `turns::turn` meets its contract. Assumes nothing.
use mathlib.Core.Path.{refl}
use native.Mathlib.Omega.{arith}
use borrow.Author.Tests.{not-true, not-false}
use Rattle.machine.proofs.Stages.{turned_refused, turned_over, turned_events}
use borrow.Author.Rules.{rules}
use Rattle.turns.proofs.turn.Goals as goal

pub plan_turn-requires : goal.plan_turn-requires
plan_turn-requires c = record { room = omega (arith, c.requires.0); last = λ e. c.requires.0; unread = not-true _ c.if-not-stage.true }

pub returns-then-not-stage : goal.returns-then-not-stage
returns-then-not-stage c = c.plan_turn.ensures

pub returns-then-stage-ne-ACCEPTED : goal.returns-then-stage-ne-ACCEPTED
returns-then-stage-ne-ACCEPTED c = turned_refused _ _ _ _ _ _ _ _ _ _ _ (not-false _ c.if-not-stage.false) c.if-stage-ne-ACCEPTED.true _ c.stands.ensures

pub returns-then-over : goal.returns-then-over
returns-then-over c = turned_over _ c.args.over _ _ _ _ _ _ _ _ _ (not-false _ c.if-not-stage.false) c.if-over.true c.if-stage-ne-ACCEPTED.false _ refl c.put_over-end.ensures _ c.stands-then-over.ensures

pub returns : goal.returns
returns c = turned_events _ c.args.over _ _ _ _ _ _ _ _ _ (not-false _ c.if-not-stage.false) c.if-over.false c.if-stage-ne-ACCEPTED.false c.put_events-said.ensures _ c.stands-2.ensures
