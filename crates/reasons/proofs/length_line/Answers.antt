-- `reasons::length_line` meets its contract. Assumes nothing.
use mathlib.Core.Path.{refl, ◌∙◌}
use Rattle.reasons.proofs.length_line.Goals as goal

pub returns : goal.returns
returns c = c.line_of.ensures ∙ rw c.piece_of.ensures refl
