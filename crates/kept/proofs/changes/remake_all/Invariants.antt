-- `kept::changes::remake_all` meets its contract. Assumes nothing.
use mathlib.Core.Path.{◌≡◌}
use Rattle.neighbours.specs.Lists.{over, still_ahead, entries_of}
use Rattle.kept.specs.Rooms.{remade_at}
use Rattle.kept.proofs.changes.remake_all.Given as goal

abbrev pub invariant-loop-i : goal.invariant-loop-i
invariant-loop-i l = over (remade_at l.rows l.out) l.kept (still_ahead l.i-iterator) ≡ over (remade_at l.rows l.out) l.initial.kept (entries_of l.ends l.z)
