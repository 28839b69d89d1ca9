-- `kept_windows::high_of` meets its contract: with what is left it is the least of all. Assumes nothing.
use Rattle.std.proofs.Common.{◌≡◌, ◌≤◌, min, drop}
use Rattle.points.specs.Sets.{members_of}
use Rattle.lowhigh.specs.Rules.{never}
use Rattle.windows.specs.Inside.{least_at}
use Rattle.kept.specs.Rooms.{highs_at}
use Rattle.kept_windows.proofs.high_of.Given as goal

abbrev pub invariant-loop-p : goal.invariant-loop-p
invariant-loop-p l = (l.least ≤ never) × (min l.least (least_at (drop highs_at l.kept) l.p-iterator) ≡ least_at (drop highs_at l.kept) (members_of l.set))
