-- The pond code of a number, back from what it becomes, and how many there are. Assumes nothing.
use Rattle.std.specs.Prelude.{List, [], ◌∷◌, ℕ, ◌+◌, ◌*◌, ◌-◌, ◌/◌, ◌%◌}

-- how many codes there are
abbrev pub most_codes : ℕ
most_codes = 26 * 26 * 10000

-- the code of a number from 1 on
abbrev pub code_text : ℕ → List ℕ
code_text n =
    (65 + (n - 1) / 10000 / 26)
    ∷ (65 + (n - 1) / 10000 % 26)
    ∷ (48 + (n - 1) % 10000 / 10 / 10 / 10)
    ∷ (48 + (n - 1) % 10000 / 10 / 10 % 10)
    ∷ (48 + (n - 1) % 10000 / 10 % 10)
    ∷ (48 + (n - 1) % 10000 % 10)
    ∷ []
