-- Document 01's reply number of a verdict, 0 where nothing is refused, and the values that each of its cases carries. Assumes
-- nothing.
use Rattle.std.specs.Prelude.{List, [], ◌∷◌, ℕ}
use Rattle.verdict.specs.declared.Verdict.{Verdict}
use Rattle.verdict.specs.declared.Verdict.TheVariants.{Refused, Kept, Broken}

-- kept, or the first broken record
abbrev pub verdict_number : Verdict → ℕ
verdict_number (Refused n i) = n
verdict_number Kept = 0
verdict_number (Broken i) = 0

abbrev pub verdict_values : Verdict → List ℕ
verdict_values (Refused n i) = i ∷ []
verdict_values Kept = []
verdict_values (Broken i) = i ∷ []
