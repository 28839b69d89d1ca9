-- `closure::made::first_records` meets its contract. Assumes nothing.
use mathlib.Core.Path.{◌≡◌}
use lib.ListN.{length}
use Rattle.plan.specs.Limits.{most_records}
use Rattle.closure.proofs.Coding.{Copied}
use Rattle.closure.proofs.made.first_records.Given as goal

abbrev pub invariant-loop-i : goal.invariant-loop-i
invariant-loop-i l = (length l.plan.records ≡ most_records) × (length l.records ≡ most_records) × Copied l.plan l.n l.records l.i
