-- What a table says of the walks over any edges between n points. Assumes nothing.
use Rattle.std.specs.Prelude.{◌≡◌, ℕ, ◌+◌, ◌<◌, ◌≤◌}
use Rattle.network.specs.Walks.{Walk}
use Rattle.plan.specs.Limits.{farthest}
use Rattle.tables.specs.Tables.{Table, bias, none, Within}

-- the entry v is the weight of a walk from X to Y
pub record Attained (E : ℕ → ℕ → ℕ → ℕ → Type 0) (X Y v : ℕ) : Type 0 where
  pub up : ℕ
  pub down : ℕ
  pub walk : Walk E X Y up down
  pub weight : v + down ≡ bias + up

-- every edge is between two of n points
abbrev pub Inside : (ℕ → ℕ → ℕ → ℕ → Type 0) → ℕ → Type 0
Inside E n = (X Y u d : ℕ) → E X Y u d → (X < n) × (Y < n)

-- f has every edge, and each point at no more than 0 from itself
pub record Drawn (E : ℕ → ℕ → ℕ → ℕ → Type 0) (n : ℕ) (f : Table) : Type 0 where
  pub self : (X : ℕ) → X < n → f X X ≤ bias
  pub edge : (X Y u d : ℕ) → E X Y u d → (f X Y < none) × (f X Y + d ≤ bias + u)
  pub real : (X Y : ℕ) → X < n → Y < n → f X Y < none → Attained E X Y (f X Y)
  pub within : Within farthest n f

-- f has the least weight of a walk between any two of n points
pub record Distances (E : ℕ → ℕ → ℕ → ℕ → Type 0) (n : ℕ) (f : Table) : Type 0 where
  pub least : (X Y u d : ℕ) → X < n → Walk E X Y u d → (f X Y < none) × (f X Y + d ≤ bias + u)
  pub real : (X Y : ℕ) → X < n → Y < n → f X Y < none → Attained E X Y (f X Y)
