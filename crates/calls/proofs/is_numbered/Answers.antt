-- `calls::is_numbered` meets its contract. Assumes nothing.
use mathlib.Core.Path.{sym, ◌∙◌}
use Rattle.calls.specs.Calls.{numbered}
use Rattle.calls.proofs.is_numbered.Goals as goal

pub returns-then-not-all_unnumbered : goal.returns-then-not-all_unnumbered
unfolding numbered
returns-then-not-all_unnumbered c = rw (sym c.all_unnumbered.ensures ∙ c.if-not-all_unnumbered.true)
