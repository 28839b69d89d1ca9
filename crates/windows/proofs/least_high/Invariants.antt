-- `windows::least_high` meets its contract: with what is left it is the least of all. Assumes nothing.
use Rattle.std.proofs.Common.{◌≡◌, ◌≤◌, min}
use Rattle.points.specs.Sets.{members_of}
use Rattle.lowhigh.specs.Rules.{never}
use Rattle.windows.specs.Inside.{least_at}
use Rattle.windows.proofs.least_high.Given as goal

abbrev pub invariant-loop-p : goal.invariant-loop-p
invariant-loop-p l = (l.least ≤ never) × (min l.least (least_at l.highs l.p-iterator) ≡ least_at l.highs (members_of l.set))
