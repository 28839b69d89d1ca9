-- `lowhigh::tables_of` meets its contract. Assumes nothing.
use mathlib.Core.Path.{◌≡◌}
use Prim.Native.Nat.{◌≤◌, min}
use lib.ListN.{length, take}
use Rattle.plan.specs.Limits.{most_points, most_records}
use Rattle.plan.specs.APlan.{records_of}
use Rattle.lowhigh.specs.Inside.{TablesOf}
use Rattle.lowhigh.proofs.tables_of.Given as goal

abbrev pub invariant-loop-i : goal.invariant-loop-i
invariant-loop-i l =
    (l.i ≤ l.count) × (l.count ≡ min l.plan.count most_records) × (length l.plan.records ≡ most_records) × (length l.minutes ≡ most_points) × (length l.links.ends ≡ most_points) × (length l.holders ≡ most_points) × (length l.lows ≡ most_points) × (length l.highs ≡ most_points)
    × TablesOf (records_of l.plan) (take l.i (records_of l.plan)) l.clock l.done l.minutes l.shut l.holders l.lows l.highs
