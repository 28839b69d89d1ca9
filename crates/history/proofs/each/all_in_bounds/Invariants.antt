-- `history::each::all_in_bounds` meets its contract. Assumes nothing.
use mathlib.Core.Path.{◌≡◌}
use lib.ListN.{length}
use Rattle.plan.specs.Limits.{most_points}
use Rattle.history.proofs.Walks.{Left}
use Rattle.history.specs.History.{in_bounds}
use Rattle.history.proofs.each.all_in_bounds.Given as goal

abbrev pub invariant-loop-i : goal.invariant-loop-i
invariant-loop-i l = (length l.minutes ≡ most_points) × Left (in_bounds l.clock l.done l.minutes) l.plan l.n l.i
