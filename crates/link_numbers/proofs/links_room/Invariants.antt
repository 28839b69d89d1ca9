-- `link_numbers::links_room` meets its contract. Assumes nothing.
use Prim.Native.Nat.{◌+◌, ◌*◌, ◌-◌, ◌≤◌}
use mathlib.Core.Path.{◌≡◌}
use lib.ListN.{length, take}
use Rattle.plan.specs.Limits.{most_points}
use Rattle.link_numbers.specs.Rooms.{end_numbers, links_length}
use Rattle.link_numbers.proofs.Putting.{Put}
use Rattle.link_numbers.proofs.links_room.Given as goal

abbrev pub invariant-loop-q : goal.invariant-loop-q
invariant-loop-q l = (l.q ≤ most_points) × (length l.ends ≡ most_points) × (length l.room ≡ links_length) × Put end_numbers (take 2 l.initial.room) l.ends (2 + 3 * l.q) l.q l.room

abbrev pub decreases-loop-q : goal.decreases-loop-q
decreases-loop-q l = most_points - l.q
