-- `rooms::begins::begin_kept` meets its contract. Assumes nothing.
use Prim.Native.Nat.{◌-◌, ◌≤◌}
use Rattle.plan.specs.Limits.{most_records}
use Rattle.kept.specs.Begins.{Begun}
use Rattle.rooms.proofs.begins.begin_kept.Given as goal

abbrev pub invariant-loop-i : goal.invariant-loop-i
invariant-loop-i l = (l.i ≤ l.count) × (l.count ≤ most_records) × Begun l.rows l.i l.kept

abbrev pub decreases-loop-i : goal.decreases-loop-i
decreases-loop-i l = l.count - l.i
