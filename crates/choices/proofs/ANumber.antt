-- A projection by its number, computed. Assumes nothing.
use mathlib.Core.Path.{◌≡◌, refl}
use mathlib.Core.List.{[], ◌∷◌}
use Rattle.vee.specs.PlanTest.{many}
use Rattle.choices.specs.Choices.{chosen}

-- two links, of 2 or 3 minutes and of 5 to 7: number 4 has 3 and 6
number_four : chosen (record { over = 0; least = 2; most = 3 } ∷ record { over = 1; least = 5; most = 7 } ∷ []) (0 ∷ 0 ∷ []) 4 ≡ 3 ∷ 6 ∷ []
unfolding chosen many
number_four = refl
