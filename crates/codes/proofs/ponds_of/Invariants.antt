-- `codes::ponds_of` meets its contract. Assumes nothing.
use mathlib.Core.Path.{◌≡◌}
use lib.ListN.{length}
use Rattle.plan.specs.Limits.{most_records}
use Rattle.codes.specs.Ponds.{ForEach, pond_at}
use Rattle.codes.proofs.ponds_of.Given as goal

abbrev pub invariant-loop-i : goal.invariant-loop-i
invariant-loop-i l = (length l.plan.records ≡ most_records) × ForEach (pond_at l.plan) 0 l.i l.ponds
