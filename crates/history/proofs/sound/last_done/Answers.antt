-- `history::sound::last_done` meets its contract. Assumes nothing.
use Rattle.std.proofs.Common.{sym, ◌∙◌}
use Rattle.history.proofs.Walks.{largest_more, largest_none}
use Rattle.history.proofs.sound.last_done.Goals as goal

pub loop-p-preserved : goal.loop-p-preserved
loop-p-preserved c = rw (c.max-last.ensures, c.minute_at.ensures) (sym (largest_more _ _ c.in-Some.ensures.steps.yields) ∙ c.loop-p.invariant)

pub returns : goal.returns
returns c = largest_none _ _ c.in-None.ensures.steps.yields.0 ∙ c.loop-p.invariant
