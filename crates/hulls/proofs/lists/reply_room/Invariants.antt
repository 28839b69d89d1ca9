-- `hulls::lists::reply_room` meets its contract. Assumes nothing.
use Prim.Native.Nat.{◌+◌, ◌*◌, ◌-◌, ◌≤◌}
use mathlib.Core.Path.{◌≡◌}
use lib.ListN.{length, take}
use Rattle.plan.specs.Limits.{most_points}
use Rattle.hulls.specs.Rooms.{place_numbers, board_length}
use Rattle.link_numbers.proofs.Putting.{Put}
use Rattle.hulls.proofs.lists.reply_room.Given as goal

abbrev pub invariant-loop-q : goal.invariant-loop-q
invariant-loop-q l = (l.q ≤ most_points) × (length l.places ≡ most_points) × (length l.room ≡ board_length) × Put place_numbers (take 2 l.initial.room) l.places (2 + 2 * l.q) l.q l.room

abbrev pub decreases-loop-q : goal.decreases-loop-q
decreases-loop-q l = most_points - l.q
