-- `history::sound::all_fit` meets its contract. Assumes nothing.
use mathlib.Core.Path.{◌≡◌}
use Prim.Native.Nat.{◌≤◌, ◌-◌}
use Rattle.points.specs.Sets.{from, every}
use Rattle.plan.specs.Limits.{most_points}
use Rattle.history.specs.History.{fits}
use Rattle.history.proofs.sound.all_fit.Given as goal

abbrev pub invariant-loop-p : goal.invariant-loop-p
invariant-loop-p l =
    (l.p ≤ most_points) × (every (fits l.clock l.done l.minutes) (from l.p (most_points - l.p)) ≡ every (fits l.clock l.done l.minutes) (from 0 most_points))
