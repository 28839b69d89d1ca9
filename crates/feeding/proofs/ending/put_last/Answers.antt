-- `feeding::put_last` meets its contract. Assumes nothing.
use Rattle.std.proofs.Common.{sym, refl, ◌∙◌}
use Rattle.history.proofs.Tests.{clash}
use Rattle.feeding.proofs.ending.put_last.Goals as goal

pub returns-then-not-over : goal.returns-then-not-over
returns-then-not-over c = record { on = λ e. (refl, refl); refused = λ z. (refl, refl); last = λ e z. clash (sym e ∙ c.if-not-over.true) }

pub returns-then-number-ne-ACCEPTED : goal.returns-then-number-ne-ACCEPTED
returns-then-number-ne-ACCEPTED c = record { on = λ e. (refl, refl); refused = λ z. (refl, refl); last = λ e z. absurd (c.if-number-ne-ACCEPTED.true z) }

pub put_end-requires : goal.put_end-requires
put_end-requires c = c.requires c.if-not-over.false

pub returns : goal.returns
returns c = record { on = λ e. clash (sym (c.if-not-over.false) ∙ e); refused = λ z. absurd (z c.if-number-ne-ACCEPTED.false); last = λ e z. c.put_end.ensures }
