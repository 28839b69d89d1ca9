-- `kept::changes::bound_all` meets its contract. Assumes nothing.
use mathlib.Core.Path.{◌≡◌}
use Rattle.neighbours.specs.Lists.{over, still_ahead, entries_of}
use Rattle.kept.specs.Rooms.{bounded_at}
use Rattle.kept.proofs.changes.bound_all.Given as goal

abbrev pub invariant-loop-i : goal.invariant-loop-i
invariant-loop-i l = over (bounded_at l.rows l.t) l.kept (still_ahead l.i-iterator) ≡ over (bounded_at l.rows l.t) l.initial.kept (entries_of l.out l.z)
