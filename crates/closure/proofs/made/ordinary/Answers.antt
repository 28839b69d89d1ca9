-- `closure::made::ordinary` meets its contract. Assumes nothing.
use mathlib.Core.Path.{refl, ◌∙◌}
use borrow.Author.Rules.{sfits_of}
use mir.Syntax.{w32}
use mir.ValLaws.{to_z-of_z}
use Rattle.closure.proofs.made.ordinary.Goals as goal

pub returns : goal.returns
returns c = rw (to_z-of_z w32 c.signed.result (sfits_of c.signed.type_inv), c.signed.ensures ∙ c.bits_of.ensures) refl
