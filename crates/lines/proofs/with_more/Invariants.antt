-- `lines::with_more` meets its contract. Assumes nothing.
use mathlib.Core.Path.{◌≡◌}
use lib.ListN.{drop}
use Rattle.lines.specs.Text.{more_text}
use Rattle.lines.specs.Inside.{with, RoomFor}
use Rattle.lines.proofs.with_more.Given as goal

abbrev pub invariant-loop-piece : goal.invariant-loop-piece
invariant-loop-piece l = RoomFor l.next (more_text (drop l.piece-index l.more)) × (with l.next (more_text (drop l.piece-index l.more)) ≡ with l.initial.next (more_text l.more))
