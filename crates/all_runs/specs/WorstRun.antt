-- Document 02, §13, "Worst finishing minute": the largest finishing minute over all projections, and the first projection that
-- reaches it. Assumes nothing.
use Rattle.std.specs.Prelude.{List, [], ◌∷◌, ℕ, suc, ltb, get_or, if◌then◌else◌}
use Rattle.plan.specs.APlan.{records_of}
use Rattle.plan.specs.declared.Plan.{Plan}
use Rattle.vee.specs.PlanTest.{spans, projections, unset}
use Rattle.projection_runs.specs.ProjectionRuns.{finishing}

-- the projections of a plan, in test order
abbrev pub projections_of : Plan → List (List ℕ)
projections_of p = projections (spans (records_of p)) unset

-- projection number i of a plan
abbrev pub projection_at : Plan → ℕ → List ℕ
projection_at p i = get_or (projections_of p) i []

-- a finishing minute, and the projection that has it
pub record Finish : Type 0 where
  pub minute : ℕ
  pub projection : ℕ

-- the worse of what is found so far and the minute t of projection i: of equal minutes the first counts
abbrev pub worse : Finish → ℕ → ℕ → Finish
worse found t i = if ltb found.minute t then record { minute = t; projection = i } else found

-- the worst of the projections ws, the first of which is number i, and of what is found before them
unfoldable pub worst_from : Plan → Finish → ℕ → List (List ℕ) → Finish
worst_from p found i [] = found
worst_from p found i (w ∷ ws) = worst_from p (worse found (finishing p w) i) (suc i) ws

-- the worst of all: no minute is below 0
abbrev pub worst_of_all : Plan → Finish
worst_of_all p = worst_from p (record { minute = 0; projection = 0 }) 0 (projections_of p)
