-- `kept::changes::running_of` meets its contract. Assumes nothing.
use mathlib.Core.Path.{◌≡◌}
use Prim.Native.Nat.{max}
use Rattle.neighbours.specs.Lists.{top_at, still_ahead, entries_of}
use Rattle.kept.specs.Rooms.{running_at}
use Rattle.kept.proofs.changes.running_of.Given as goal

abbrev pub invariant-loop-i : goal.invariant-loop-i
invariant-loop-i l = max l.top (top_at (running_at l.rows l.kept) (still_ahead l.i-iterator)) ≡ top_at (running_at l.rows l.kept) (entries_of l.out l.v)
