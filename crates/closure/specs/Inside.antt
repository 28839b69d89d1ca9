-- What the functions that make the plan ask. A reader of the rules can leave this page out. Assumes nothing.
use Rattle.std.specs.Prelude.{◌≡◌, ℕ, ◌+◌, ◌<◌, ◌≤◌, length}
use Rattle.plan.specs.APlan.{records_of, plan_of}
use Rattle.plan.specs.Limits.{most_records}
use Rattle.plan.specs.declared.Plan.{Plan}
use Rattle.tables.specs.Tables.{side}

-- the plan's other room is zero, and it has room for the records from x
pub record RowReady (p : Plan) (n x : ℕ) : Type 0 where
  pub whole : p ≡ plan_of (records_of p)
  pub room : length (records_of p) + n ≤ most_records
  pub few : n ≤ side
  pub below : x < n

-- it has no more records than there may be points
pub record RowsReady (p : Plan) (n : ℕ) : Type 0 where
  pub whole : p ≡ plan_of (records_of p)
  pub room : length (records_of p) ≤ side
  pub few : n ≤ side

-- it has n records at least
pub record PointsReady (p : Plan) (n : ℕ) : Type 0 where
  pub few : n ≤ side
  pub count : p.count ≤ most_records
  pub there : n ≤ p.count
