-- Document 01, "A plan": the records of a plan, and the plan that some records make. A plan is the list of its records in file
-- order, and unused room counts for nothing. What some records say of the points is handed on from `records`, and what a
-- signed number adds and takes away from `numbers`. Assumes nothing.
use Rattle.std.specs.Prelude.{Bool, List, [], ◌∷◌, ◌++◌, ℕ, suc, ◌-◌, length, take, replicate, if◌then◌else◌, Option, Some, None}
use Rattle.records.specs.declared.Record.{Record}
use Rattle.plan.specs.Limits.{most_records}
use Rattle.plan.specs.declared.Plan.{Plan}
pub use Rattle.numbers.specs.Numbers.{gap_of}
pub use Rattle.records.specs.Records.{Kind, point, link, ordinary, wait, unknown, kind_of, most_with, byte_of, is, ends_at, from_to, one}
pub use Rattle.records.specs.Records.{points, links, watched, leads, blank, link_to}
unfoldable pub use Rattle.records.specs.Records.{how_many, some, first_that}

-- the place of the first of the records that is so, if one is; i is the place of the first of all
unfoldable pub place_from : ℕ → (Record → Bool) → List Record → Option ℕ
place_from i so [] = None
place_from i so (r ∷ rs) = if so r then Some i else place_from (suc i) so rs

abbrev pub place_of : (Record → Bool) → List Record → Option ℕ
place_of so rs = place_from 0 so rs

-- the records of a plan: as many as its count says, as far as it has room
abbrev pub records_of : Plan → List Record
records_of p = take p.count p.records

-- the plan that the records make, its other room zero
abbrev pub plan_of : List Record → Plan
plan_of rs = record { count = length rs; records = rs ++ replicate (most_records - length rs) blank }
