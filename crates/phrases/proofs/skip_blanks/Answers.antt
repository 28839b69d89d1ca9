-- `phrases::skip_blanks` meets its contract. Assumes nothing.
use mathlib.Core.Path.{◌≡◌, refl, ap, ◌∙◌}
use mathlib.Core.Bool.{not}
use native.Mathlib.Omega.{arith}
use Rattle.phrases.proofs.Turning.{blanks_end, blanks_stop, blanks_on}
use Rattle.phrases.proofs.skip_blanks.Goals as goal

pub loop-i-init : goal.loop-i-init
loop-i-init c = (omega arith, refl)

pub returns-then-not-is_blank : goal.returns-then-not-is_blank
returns-then-not-is_blank c = blanks_stop _ _ (omega arith) _ c.is_lf.ensures _ c.is_blank.ensures (ap not c.if-not-is_blank.true) ∙ c.loop-i.invariant.1

pub loop-i-preserved : goal.loop-i-preserved
loop-i-preserved c = (omega arith, blanks_on _ _ (omega arith) _ c.is_lf.ensures _ c.is_blank.ensures (ap not c.if-not-is_blank.false) ∙ c.loop-i.invariant.1)

pub returns : goal.returns
returns c =
    let e : c.max.result ≡ c.loop-i.i = omega (arith, c.max.ensures, c.loop-i.invariant.0) in
    e ∙ blanks_end _ _ (omega arith) ∙ c.loop-i.invariant.1
