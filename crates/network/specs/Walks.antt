-- Walks over any edges, given as a relation E of two points and a weight, up and down. Assumes nothing.
use Rattle.std.specs.Prelude.{ℕ, ◌+◌, ◌≤◌, ◌<◌}

module _ (E : ℕ → ℕ → ℕ → ℕ → Type 0) where
  -- zero or more edges, one after the other, with the sum of their weights
  pub data Walk : ℕ → ℕ → ℕ → ℕ → Type 0 where
    nil : {X : ℕ} → Walk X X 0 0
    step : {X Z Y u d u' d' : ℕ} → E X Z u d → Walk Z Y u' d' → Walk X Y (u + u') (d + d')

  -- the negative edges, and the others
  pub record Negative (X Y u d : ℕ) : Type 0 where
    pub edge : E X Y u d
    pub below : u < d

  pub record NonNegative (X Y u d : ℕ) : Type 0 where
    pub edge : E X Y u d
    pub above : d ≤ u

-- zero or more negative edges, followed by zero or more non-negative ones
pub data Vee (E : ℕ → ℕ → ℕ → ℕ → Type 0) : ℕ → ℕ → ℕ → ℕ → Type 0 where
  vee : {X M Y u d u' d' : ℕ} → Walk (Negative E) X M u d → Walk (NonNegative E) M Y u' d' → Vee E X Y (u + u') (d + d')
