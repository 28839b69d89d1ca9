-- `links::links_by` meets its contract. Assumes nothing.
use mathlib.Core.Path.{◌≡◌}
use Prim.Native.Nat.{◌≤◌, min}
use lib.ListN.{length, take}
use Rattle.plan.specs.Limits.{most_records}
use Rattle.plan.specs.APlan.{records_of}
use Rattle.links.specs.Inside.{LinksOf}
use Rattle.links.proofs.Linking.{links_as}
use Rattle.links.proofs.links_by.Given as goal

abbrev pub invariant-loop-i : goal.invariant-loop-i
invariant-loop-i l =
    (l.i ≤ l.count) × (l.count ≡ min l.plan.count most_records) × (length l.plan.records ≡ most_records) × (l.points ≤ l.i) × LinksOf (take l.i (records_of l.plan)) (links_as l.points l.watched l.ends)
