-- `replies::list` meets its contract. Assumes nothing.
use mathlib.Core.List.{[]}
use Prim.Native.Nat.{◌≤◌}
use Rattle.plan.specs.Limits.{most_points}
use Rattle.replies.specs.Inside.{place_from}
use Rattle.replies.proofs.Replying.{Listed}
use Rattle.replies.proofs.list.Given as goal

abbrev pub invariant-loop-p : goal.invariant-loop-p
invariant-loop-p l =
    (l.p ≤ most_points)
    × Listed (place_from (record { clock = 0; done = l.done; minutes = l.minutes; calls = [] }) l.watches (record { opens = l.opens; holders = l.holders; lows = l.lows; high = 0 }) l.offers l.latest) l.p l.places
