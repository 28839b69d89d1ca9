-- Document 01, "Verdict and plan test": what is found of one projection, any edges E. First, a cycle of negative sum; then
-- pairs, X slowest. Assumes nothing.
use Rattle.std.specs.Prelude.{◌≡◌, ◌⊎◌, ℕ, ◌<◌}
use Rattle.network.specs.Passing.{Consistent, Fine, Bad}

-- the pair (X, Y) comes before (X', Y'): X slowest
abbrev pub Before : ℕ → ℕ → ℕ → ℕ → Type 0
Before X Y X' Y' = (X < X') ⊎ ((X ≡ X') × (Y < Y'))

-- (X, Y) is the first pair that is joined, but by no shortest walk of negative edges and then non-negative ones
pub record FirstBad (E : ℕ → ℕ → ℕ → ℕ → Type 0) (X Y : ℕ) : Type 0 where
  pub consistent : Consistent E
  pub bad : Bad E X Y
  pub before : (X' Y' : ℕ) → Before X' Y' X Y → Fine E X' Y'
