-- `feeding::keep_part` meets its contract. Assumes nothing.
use Rattle.std.proofs.Common.{sym, refl, ◌∙◌}
use Rattle.history.proofs.Tests.{clash}
use Rattle.feeding.proofs.ending.keep_part.Goals as goal

pub returns-then-not-over : goal.returns-then-not-over
returns-then-not-over c = record { on = λ e. c.keep_plan.ensures; last = λ e. clash (sym e ∙ c.if-not-over.true) }

pub returns : goal.returns
returns c = let r = c.keep_rest.ensures in record { on = λ e. clash (sym (c.if-not-over.false) ∙ e); last = λ e. (r.long, r.bytes, refl, refl) }
