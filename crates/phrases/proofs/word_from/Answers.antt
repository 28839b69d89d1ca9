-- `phrases::word_from` meets its contract. Assumes nothing.
use mathlib.Core.Path.{◌≡◌, ◌∙◌}
use native.Mathlib.Omega.{arith}
use Rattle.phrases.proofs.Turning.{word_end, word_stop, word_on}
use Rattle.phrases.proofs.word_from.Goals as goal

pub loop-i-init : goal.loop-i-init
loop-i-init c = (omega arith, rw c.none-word.ensures)

pub returns-then-ends_word : goal.returns-then-ends_word
returns-then-ends_word c = word_stop _ _ (omega arith) _ c.is_lf.ensures _ _ c.ends_word.ensures c.if-ends_word.true ∙ c.loop-i.invariant.1

pub loop-i-preserved : goal.loop-i-preserved
loop-i-preserved c =
    (omega arith, rw c.with_byte-word.ensures (word_on _ _ (omega arith) _ c.is_lf.ensures _ _ c.ends_word.ensures c.if-ends_word.false) ∙ c.loop-i.invariant.1)

pub returns : goal.returns
returns c =
    let e : c.max.result ≡ c.loop-i.i = omega (arith, c.max.ensures, c.loop-i.invariant.0) in
    rw e (word_end _ _ _ (omega arith)) ∙ c.loop-i.invariant.1
