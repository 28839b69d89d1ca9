-- The pond codes of a plan's first records, one for each point that there can be. Assumes nothing.
use Rattle.std.specs.Prelude.{◌≡◌, List, ℕ, ◌<◌, length, get_or}
use Rattle.plan.specs.Limits.{most_points}
use Rattle.plan.specs.APlan.{blank}
use Rattle.plan.specs.declared.Plan.{Plan}

-- a list with room for each point that there can be, of which the first n have what f says
pub record ForEach {A : Type 0} (f : ℕ → A) (past : A) (n : ℕ) (xs : List A) : Type 0 where
  pub long : length xs ≡ most_points
  pub each : (i : ℕ) → i < n → get_or xs i past ≡ f i

-- the pond code of the plan's record i
abbrev pub pond_at : Plan → ℕ → ℕ
pond_at p i = (get_or p.records i blank).code
