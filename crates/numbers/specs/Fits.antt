-- What fits a byte, and what every one of a list is. Assumes nothing.
use Rattle.std.specs.Prelude.{List, [], ◌∷◌, ℕ, ◌<◌}

-- every one of the list is so
abbrev pub All : {A : Type 0} → (A → Type 0) → List A → Type 0
All so [] = Unit {0}
All so (x ∷ xs) = so x × All so xs

-- n fits a byte
abbrev pub IsByte : ℕ → Type 0
IsByte n = n < 256
