-- `plan::link_to` meets its contract. Assumes nothing.
use mathlib.Core.Path.{◌≡◌}
use Prim.Native.Nat.{◌≤◌, min}
use lib.ListN.{length, drop}
use Rattle.plan.specs.Limits.{most_records}
use Rattle.plan.specs.APlan.{ends_at, place_from, place_of, records_of}
use Rattle.plan.proofs.link_to.Given as goal

abbrev pub invariant-loop-i : goal.invariant-loop-i
invariant-loop-i l =
    (l.i ≤ l.count) × (l.count ≡ min l.plan.count most_records) × (length l.plan.records ≡ most_records) × (place_from l.i (ends_at l.p) (drop l.i (records_of l.plan)) ≡ place_of (ends_at l.p) (records_of l.plan))
