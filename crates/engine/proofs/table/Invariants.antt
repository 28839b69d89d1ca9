-- `engine::table` meets its contract. Assumes nothing.
use Prim.Native.Nat.{◌+◌, ◌-◌, ◌≤◌}
use Rattle.plan.specs.Limits.{most_points}
use Rattle.kept.specs.Rooms.{kept_room}
use Rattle.engine.proofs.Reading.{Reads}
use Rattle.engine.proofs.table.Given as goal

abbrev pub invariant-loop-q : goal.invariant-loop-q
invariant-loop-q l = (l.at + most_points ≤ kept_room) × Reads l.kept l.at l.q l.t

abbrev pub decreases-loop-q : goal.decreases-loop-q
decreases-loop-q l = most_points - l.q
