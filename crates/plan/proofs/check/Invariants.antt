-- `plan::check` meets its contract. Assumes nothing.
use mathlib.Core.Path.{◌≡◌}
use Prim.Native.Nat.{◌≤◌}
use lib.ListN.{length}
use Rattle.plan.specs.Limits.{most_records}
use Rattle.plan.proofs.Sofar.{Sofar}
use Rattle.plan.proofs.Pairing.{entries_of}
use Rattle.plan.proofs.check.Given as goal

abbrev pub invariant-loop-i : goal.invariant-loop-i
invariant-loop-i l =
    (l.i ≤ l.count) × (l.count ≡ l.plan.count) × (l.count ≤ most_records) × (length l.plan.records ≡ most_records) × Sofar (entries_of l.plan) l.i l.seen l.ends l.seconds
