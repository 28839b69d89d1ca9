-- `fields::walk_from` meets its contract. Assumes nothing.
use mathlib.Core.Path.{◌≡◌, refl, sym, ◌∙◌}
use native.Mathlib.Omega.{arith}
use Rattle.fields.proofs.Turning.{walk_on, walk_stop, walk_end}
use Rattle.fields.proofs.walk_from.Goals as goal

pub loop-i-init : goal.loop-i-init
loop-i-init c = (omega arith, refl)

pub returns-in_default : goal.returns-in_default
returns-in_default c =
    let l = c.loop-i in
    walk_stop l.here c.args.piece.now l.i (omega arith) _ (sym c.step-step.ensures) c.in_default.not-On ∙ l.invariant.1

pub loop-i-preserved : goal.loop-i-preserved
loop-i-preserved c =
    let l = c.loop-i in
    (omega arith, walk_on l.here c.args.piece.now l.i (omega arith) _ (sym c.step-step.ensures ∙ c.in-On.is) ∙ l.invariant.1)

pub returns : goal.returns
returns c =
    let l = c.loop-i in
    let e : c.max.result ≡ l.i = omega (arith, c.max.ensures, l.invariant.0) in
    rw e (walk_end l.here c.args.piece.now l.i (omega arith)) ∙ l.invariant.1
