-- What the functions behind `lighter` ask and answer. A reader of the rules can leave this page out. Assumes nothing.
use Rattle.std.specs.Prelude.{◌≡◌, List, [], ◌++◌, ℕ, suc, ◌≤◌, take, drop}
use Rattle.plan.specs.APlan.{records_of}
use Rattle.plan.specs.ReplyNumbers.{check_of}
use Rattle.records.specs.declared.Record.{Record}
use Rattle.plan.specs.declared.Plan.{Plan}
use Rattle.network.specs.Passing.{Passes}
use Rattle.vee.specs.PlanTest.{net_of, spans, many, most_projections}
use Rattle.lighter.specs.declared.Lighter.{Lighter}
use Rattle.lighter.specs.Lighter.{Goes, lighter_as}

-- the records but that at place i, all where there is none
abbrev pub but : ℕ → List Record → List Record
but i rs = take i rs ++ drop (suc i) rs

-- the plan p is accepted and passes, with so many projections
pub record DropAsks (p : Plan) (total : ℕ) : Type 0 where
  pub ok : (check_of p).number ≡ 0
  pub counted : total ≡ many (spans (records_of p))
  pub few : total ≤ most_projections
  pub passes : Passes (net_of (records_of p))

-- the walk over its records makes the answer r
pub record Dropped (p : Plan) (r : Lighter) : Type 0 where
  pub left : List Record
  pub numbers : List ℕ
  pub goes : Goes [] 0 (records_of p) left numbers
  pub is : r ≡ lighter_as left numbers
