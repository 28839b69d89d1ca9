-- `history::each::all_earlier` meets its contract. Assumes nothing.
use mathlib.Core.Path.{◌≡◌}
use lib.ListN.{length}
use Rattle.plan.specs.Limits.{most_points}
use Rattle.history.proofs.Walks.{Left}
use Rattle.history.specs.History.{earlier}
use Rattle.history.proofs.each.all_earlier.Given as goal

abbrev pub invariant-loop-i : goal.invariant-loop-i
invariant-loop-i l = (length l.calls ≡ most_points) × Left (earlier l.done l.calls) l.plan l.n l.i
