-- `closure::has_steps` meets its contract. Assumes nothing.
use mathlib.Core.Path.{◌≡◌}
use Prim.Native.Nat.{◌≤◌}
use lib.ListN.{length}
use Rattle.plan.specs.Limits.{most_records}
use Rattle.closure.proofs.Coding.{Looked}
use Rattle.closure.proofs.has_steps.Given as goal

abbrev pub invariant-loop-i : goal.invariant-loop-i
invariant-loop-i l = (length l.plan.records ≡ most_records) × (l.count ≡ l.plan.count) × (l.count ≤ most_records) × Looked l.plan l.found l.i
