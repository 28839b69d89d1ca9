-- `closure::made::with_row` meets its contract. Assumes nothing.
use mathlib.Core.Path.{◌≡◌}
use Prim.Native.Nat.{◌+◌, ◌≤◌, ◌<◌}
use lib.ListN.{length, take}
use Rattle.plan.specs.Limits.{most_records}
use Rattle.tables.specs.Tables.{side}
use Rattle.tables.specs.Entries.{at}
use Rattle.closure.proofs.Coding.{RowSofar}
use Rattle.closure.proofs.made.with_row.Given as goal

abbrev pub invariant-loop-y : goal.invariant-loop-y
invariant-loop-y l =
    (l.n ≤ side) × (l.x < l.n) × (length (take l.initial.count l.initial.records) + l.n ≤ most_records) × (length l.records ≡ most_records) × (l.count ≤ length (take l.initial.count l.initial.records) + l.y) × RowSofar (take l.initial.count l.initial.records) l.n (at l.t) l.x l.y l.records l.count
