-- `rooms::begins::clear` meets its contract. Assumes nothing.
use Prim.Native.Nat.{◌-◌}
use Rattle.plan.specs.Limits.{most_points}
use Rattle.rooms.proofs.Counting.{Clearing}
use Rattle.rooms.proofs.begins.clear.Given as goal

abbrev pub invariant-loop-q : goal.invariant-loop-q
invariant-loop-q l = Clearing l.q l.kept

abbrev pub decreases-loop-q : goal.decreases-loop-q
decreases-loop-q l = most_points - l.q
