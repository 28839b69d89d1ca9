-- What is answered of a plan file, given as its bytes s: the reader's own refusal, or what is said of the plan that it reads to. Assumes nothing.
use Rattle.std.specs.Prelude.{List, ℕ, Ok, Err}
use Rattle.plan.specs.ReplyNumbers.{Reading, read_of}
use Rattle.plan.specs.declared.Plan.{Plan}

-- what f says of the plan, or what g makes of the reader's number and record
abbrev pub of_reading : {A : Type 0} → Reading → (Plan → A) → (ℕ → ℕ → A) → A
of_reading (Ok p) f g = f p
of_reading (Err x) f g = g x.number x.place

abbrev pub of_file : {A : Type 0} → List ℕ → (Plan → A) → (ℕ → ℕ → A) → A
of_file s f g = of_reading (read_of s) f g
