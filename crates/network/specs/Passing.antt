-- Document 01, "Verdict and plan test": cycles of negative sum, pairs that a shortest walk of negative edges and then
-- non-negative ones joins, and what it is for a plan to pass. Assumes nothing.
use Rattle.std.specs.Prelude.{ℕ, ◌+◌, ◌≤◌, ◌<◌}
use Rattle.network.specs.Projection.{Net, InBounds, Edge}
use Rattle.network.specs.Walks.{Walk, Vee}

module _ (E : ℕ → ℕ → ℕ → ℕ → Type 0) where
  -- a walk joins X to Y
  pub record Joined (X Y : ℕ) : Type 0 where
    pub up : ℕ
    pub down : ℕ
    pub walk : Walk E X Y up down

  -- a cycle of negative sum
  pub record Cycle : Type 0 where
    pub at : ℕ
    pub up : ℕ
    pub down : ℕ
    pub walk : Walk E at at up down
    pub below : up < down

  -- no closed walk comes to less than zero
  pub record Consistent : Type 0 where
    pub round : {X u d : ℕ} → Walk E X X u d → d ≤ u

  -- a walk from X to Y of negative edges and then non-negative ones that no walk from X to Y undercuts
  pub record Shortest (X Y : ℕ) : Type 0 where
    pub up : ℕ
    pub down : ℕ
    pub walk : Vee E X Y up down
    pub least : {u d : ℕ} → Walk E X Y u d → up + d ≤ u + down

  -- X and Y, if joined, are joined by such a walk; they are joined, and not by such a walk
  abbrev pub Fine : ℕ → ℕ → Type 0
  Fine X Y = Joined X Y → Shortest X Y

  pub record Bad (X Y : ℕ) : Type 0 where
    pub joined : Joined X Y
    pub none : Shortest X Y → ⊥

  -- each pair is fine
  pub record Dispatchable : Type 0 where
    pub best : (X Y : ℕ) → Fine X Y

  pub record Good : Type 0 where
    pub consistent : Consistent
    pub dispatchable : Dispatchable

-- each projection is consistent and dispatchable
pub record Passes (N : Net) : Type 0 where
  pub each : (ω : ℕ → ℕ) → InBounds N ω → Good (Edge N ω)
