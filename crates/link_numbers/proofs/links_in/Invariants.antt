-- `link_numbers::links_in` meets its contract. Assumes nothing.
use Prim.Native.Nat.{◌-◌, ◌≤◌}
use Rattle.plan.specs.Limits.{most_points}
use Rattle.link_numbers.specs.Rooms.{end_in, end_at}
use Rattle.link_numbers.proofs.Taking.{Listed}
use Rattle.link_numbers.proofs.links_in.Given as goal

abbrev pub invariant-loop-q : goal.invariant-loop-q
invariant-loop-q l = (l.q ≤ most_points) × Listed (end_at l.room) (end_in 0 0 0) most_points l.q l.ends

abbrev pub decreases-loop-q : goal.decreases-loop-q
decreases-loop-q l = most_points - l.q
