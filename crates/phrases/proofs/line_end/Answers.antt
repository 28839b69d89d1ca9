-- `phrases::line_end` meets its contract. Assumes nothing.
use mathlib.Core.Path.{◌≡◌, refl, ◌∙◌}
use native.Mathlib.Omega.{arith}
use Rattle.phrases.proofs.Turning.{line_past, line_stop, line_on}
use Rattle.phrases.proofs.line_end.Goals as goal

pub loop-i-init : goal.loop-i-init
loop-i-init c = (omega arith, refl)

pub returns-then-text-i-eq-LF : goal.returns-then-text-i-eq-LF
returns-then-text-i-eq-LF c = line_stop _ _ (omega arith) c.if-text-i-eq-LF.true ∙ c.loop-i.invariant.1

pub loop-i-preserved : goal.loop-i-preserved
loop-i-preserved c = (omega arith, line_on _ _ (omega arith) c.if-text-i-eq-LF.false ∙ c.loop-i.invariant.1)

pub returns : goal.returns
returns c =
    let e : c.max.result ≡ c.loop-i.i = omega (arith, c.max.ensures, c.loop-i.invariant.0) in
    e ∙ line_past _ _ (omega arith) ∙ c.loop-i.invariant.1
