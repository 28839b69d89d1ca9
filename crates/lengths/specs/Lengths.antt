-- The length of a walk, and the least of some. Assumes nothing.
use Rattle.std.specs.Prelude.{ℕ, ◌+◌, ◌-◌, ◌≤◌, Option, None, Some}
use Rattle.lengths.specs.declared.Length.{Length}

-- the length u − d: what is above zero, and what is below
abbrev pub length_of : ℕ → ℕ → Length
length_of u d = record { up = u - d; down = d - u }

-- the least length of the walks W, each of which is given by its sum, up and down; or there is none
pub data Least (W : ℕ → ℕ → Type 0) : Option Length → Type 0 where
  nothing : ((u d : ℕ) → W u d → ⊥) → Least W None
  least : {u d : ℕ} → W u d → ((u' d' : ℕ) → W u' d' → u + d' ≤ u' + d) → Least W (Some (length_of u d))
