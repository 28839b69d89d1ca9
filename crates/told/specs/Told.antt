-- The plan test's answer, a verdict and the worst minute as numbers in a lent room: what is answered, and what the room holds then. A
-- refusal leaves the room as it was. Assumes nothing.
use Rattle.std.specs.Prelude.{Result, Ok, Err, List, [], ◌∷◌, ℕ}
use Rattle.vee.specs.declared.Answer.{Answer}
use Rattle.vee.specs.declared.Answer.TheVariants as answer
use Rattle.verdict.specs.declared.Verdict.{Verdict}
use Rattle.verdict.specs.declared.Verdict.TheVariants as verdict
use Rattle.plan.specs.declared.Refusal.{Refusal}
use Rattle.worst.specs.WorstMinute.{Found}
use Rattle.halves.specs.Answers.{answer_of}

-- ---- the plan test: yes with the projections tried, or a cycle, or a pair, each with the projection's number

abbrev pub test_answer : Answer → ℕ
test_answer (answer.Refused n i) = answer_of n i
test_answer (answer.Yes k) = 0
test_answer (answer.Cycle i) = 0
test_answer (answer.Pair i X Y) = 0

abbrev pub test_room : Answer → List ℕ → List ℕ
test_room (answer.Refused n i) room = room
test_room (answer.Yes k) room = 0 ∷ k ∷ 0 ∷ 0 ∷ []
test_room (answer.Cycle i) room = 1 ∷ i ∷ 0 ∷ 0 ∷ []
test_room (answer.Pair i X Y) room = 2 ∷ i ∷ X ∷ Y ∷ []

-- ---- the verdict: kept, or the broken record

abbrev pub verdict_answer : Verdict → ℕ
verdict_answer (verdict.Refused n i) = answer_of n i
verdict_answer verdict.Kept = 0
verdict_answer (verdict.Broken i) = 0

abbrev pub verdict_room : Verdict → List ℕ → List ℕ
verdict_room (verdict.Refused n i) room = room
verdict_room verdict.Kept room = 0 ∷ 0 ∷ []
verdict_room (verdict.Broken i) room = 1 ∷ i ∷ []

-- ---- the worst finishing minute, and the projection that reaches it

abbrev pub worst_answer : Result Found Refusal → ℕ
worst_answer (Err x) = answer_of x.number x.place
worst_answer (Ok found) = 0

abbrev pub worst_room : Result Found Refusal → List ℕ → List ℕ
worst_room (Err x) room = room
worst_room (Ok found) room = found.minute ∷ found.projection ∷ []
