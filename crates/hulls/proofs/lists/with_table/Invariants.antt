-- `hulls::lists::with_table` meets its contract. Assumes nothing.
use Prim.Native.Nat.{◌+◌, ◌-◌, ◌≤◌}
use mathlib.Core.Path.{◌≡◌}
use lib.ListN.{length}
use Rattle.plan.specs.Limits.{most_points}
use lib.Seq.{paste}
use Rattle.hulls.specs.Rooms.{board_length}
use Rattle.hulls.proofs.lists.with_table.Given as goal

abbrev pub invariant-loop-q : goal.invariant-loop-q
invariant-loop-q l = (l.at + most_points ≤ board_length) × (l.q ≤ most_points) × (length l.table ≡ most_points) × (length l.initial.room ≡ board_length) × (length l.room ≡ board_length) × (l.room ≡ paste l.initial.room l.at l.table l.q)

abbrev pub decreases-loop-q : goal.decreases-loop-q
decreases-loop-q l = most_points - l.q
