-- `plan::count_of` meets its contract. Assumes nothing.
use mathlib.Core.Path.{◌≡◌}
use Prim.Native.Nat.{◌≤◌, min}
use lib.ListN.{length, take}
use Rattle.plan.specs.Limits.{most_records}
use Rattle.plan.specs.APlan.{how_many, records_of}
use Rattle.plan.specs.Inside.{of_byte}
use Rattle.plan.proofs.count_of.Given as goal

abbrev pub invariant-loop-i : goal.invariant-loop-i
invariant-loop-i l =
    (l.i ≤ l.count) × (l.count ≡ min l.plan.count most_records) × (length l.plan.records ≡ most_records) × (l.n ≡ how_many (of_byte l.kind) (take l.i (records_of l.plan)))
