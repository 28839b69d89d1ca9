-- `records::put_records` meets its contract. Assumes nothing.
use mathlib.Core.Path.{◌≡◌}
use Prim.Native.Nat.{◌≤◌, ◌*◌}
use lib.ListN.{length, take}
use Rattle.records.specs.Limits.{most_records, record_bytes}
use Rattle.records.proofs.Putting.{put_of}
use Rattle.records.proofs.put_records.Given as goal

abbrev pub invariant-loop-i : goal.invariant-loop-i
invariant-loop-i l =
    (l.i ≤ l.count) × (l.count ≤ most_records) × (length l.records ≡ most_records) × (record_bytes * l.count ≤ length l.initial.out) × (length l.out ≡ length l.initial.out) × (l.out ≡ put_of (take l.count l.records) l.i l.initial.out)
