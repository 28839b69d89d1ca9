-- `steps::low_by_lem` meets its contract. Assumes nothing.
use mathlib.Core.Path.{sym, ◌∙◌}
use Rattle.steps.proofs.low_by.Goals as goal

pub returns-then-not-is_open : goal.returns-then-not-is_open
returns-then-not-is_open c = rw (sym c.is_open.ensures ∙ c.if-not-is_open.true)

pub returns : goal.returns
returns c = rw (sym c.is_open.ensures ∙ c.if-not-is_open.false) c.low_at.ensures
