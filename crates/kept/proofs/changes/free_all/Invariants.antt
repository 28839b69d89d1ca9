-- `kept::changes::free_all` meets its contract. Assumes nothing.
use mathlib.Core.Path.{◌≡◌}
use Rattle.neighbours.specs.Lists.{over, still_ahead, entries_of}
use Rattle.kept.specs.Rooms.{freed_at}
use Rattle.kept.proofs.changes.free_all.Given as goal

abbrev pub invariant-loop-i : goal.invariant-loop-i
invariant-loop-i l = over (freed_at l.rows l.t) l.kept (still_ahead l.i-iterator) ≡ over (freed_at l.rows l.t) l.initial.kept (entries_of l.into l.z)
