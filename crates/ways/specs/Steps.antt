-- The steps of a way, and the edges of a sheet's rows as steps, two for each row. Assumes nothing.
use Rattle.std.specs.Prelude.{◌≡◌, Bool, ◌&&◌, List, [], ◌∷◌, ◌++◌, ℕ, min, ◌+◌, ◌-◌, ◌/◌, ◌%◌, ◌<◌, eqb, ltb, length, replicate, set, if◌then◌else◌}
use Rattle.tables.specs.Tables.{side}
use Rattle.rows.specs.declared.sheet.Row.{Row}
use Rattle.rows.specs.Sheet.{row_at, by, over_at, Laid}
use Rattle.ways.specs.declared.steps.Step.{Step}
use Rattle.ways.specs.declared.steps.Way.{Way}

-- the steps lead from X to Y: each begins where the one before ended
unfoldable pub Leads : List Step → ℕ → ℕ → Type 0
Leads [] X Y = X ≡ Y
Leads (e ∷ es) X Y = (X ≡ e.from) × Leads es e.to Y

-- the sums of what the steps add and take away
unfoldable pub ups : List Step → ℕ
ups [] = 0
ups (e ∷ es) = e.up + ups es

unfoldable pub downs : List Step → ℕ
downs [] = 0
downs (e ∷ es) = e.down + downs es

-- the steps as they are handed back: how many, and zeros in the room after them
abbrev pub no_step : Step
no_step = record { row = 0; from = 0; to = 0; up = 0; down = 0 }

abbrev pub no_steps : List Step
no_steps = replicate side no_step

abbrev pub way_as : List Step → Way
way_as es = record { count = length es; steps = es ++ replicate (side - length es) no_step }

-- the same with a step more
abbrev pub with_step : Way → Step → Way
with_step r e = record { count = r.count + 1; steps = set r.steps r.count e }

-- ---- on rows

-- the edge of a row r, number q, at the duration p of its link; of a link the one back, if so
unfoldable pub step_of : Row → ℕ → ℕ → Bool → Step
step_of r q p back =
    if eqb r.kind 3 then record { row = q; from = r.from; to = r.to; up = r.first; down = r.second }
    else (if eqb r.kind 4 then record { row = q; from = r.from; to = r.to; up = 0; down = min r.first p }
    else (if back then record { row = q; from = r.to; to = r.from; up = 0; down = p }
    else record { row = q; from = r.from; to = r.to; up = p; down = 0 }))

-- edge k of a sheet at the durations w
abbrev pub step_at : List ℕ → List ℕ → ℕ → Step
step_at s w k = step_of (row_at s (k / 2)) (k / 2) (by w (over_at s (k / 2))) (eqb (k % 2) 1)

-- a row of such a kind has edges
abbrev pub is_edge : ℕ → Bool
is_edge k = ltb 1 k && ltb k 5

-- the step is an edge of one of the first m rows
pub record StepIn (s w : List ℕ) (m : ℕ) (e : Step) : Type 0 where
  pub below : e.row < m
  pub edge : Laid s w e.row e.from e.to e.up e.down
