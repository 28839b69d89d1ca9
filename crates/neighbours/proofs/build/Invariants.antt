-- `neighbours::build` meets its contract. Assumes nothing.
use Prim.Native.Nat.{◌-◌, ◌<◌, ◌≤◌}
use Rattle.plan.specs.Limits.{most_records}
use Rattle.rows.specs.Sheet.{width}
use Rattle.neighbours.specs.Lists.{key_at}
use Rattle.neighbours.proofs.Listing.{Built}
use Rattle.neighbours.proofs.build.Given as goal

abbrev pub invariant-loop-i : goal.invariant-loop-i
invariant-loop-i l = (l.i ≤ l.count) × (l.field < width) × (l.count ≤ most_records) × Built (key_at l.rows l.least l.field) l.count l.i (l.count - l.i) l.list
