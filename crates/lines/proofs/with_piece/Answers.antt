-- `lines::with_piece` meets its contract. Assumes nothing.
use mathlib.Core.List.{[], ◌∷◌}
use Rattle.lines.proofs.Adding.{room_first, room_after, with_with}
use Rattle.lines.proofs.with_piece.Goals as goal

pub with_word-requires : goal.with_word-requires
with_word-requires c = rw c.in-Name.is at c.requires

pub with_number-requires : goal.with_number-requires
with_number-requires c = rw c.in-Number.is at c.requires

pub with_byte-requires : goal.with_byte-requires
with_byte-requires c = room_first c.args.line (45 ∷ []) _ (rw c.in-Below.is at c.requires)

pub with_number-requires-in-Below : goal.with_number-requires-in-Below
with_number-requires-in-Below c = rw c.with_byte.ensures (room_after c.args.line (45 ∷ []) _ (rw c.in-Below.is at c.requires))

pub returns-in-Name : goal.returns-in-Name
returns-in-Name c = rw c.in-Name.is c.with_word.ensures

pub returns-in-Number : goal.returns-in-Number
returns-in-Number c = rw c.in-Number.is c.with_number.ensures

pub returns-in-Below : goal.returns-in-Below
returns-in-Below c = rw (c.in-Below.is, c.with_number-in-Below.ensures, c.with_byte.ensures) (with_with c.args.line (45 ∷ []) _)
