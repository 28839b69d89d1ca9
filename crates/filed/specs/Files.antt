-- What is answered of a plan file, given as its bytes s: the reader's own refusal, or what the rules say of the plan that it reads to. Each
-- name is one of the rules' own definitions at that plan. Assumes nothing.
use Rattle.std.specs.Prelude.{Result, Ok, Err, List, ℕ}
use Rattle.plan.specs.ReplyNumbers.{number_in, place_in, plan_in, read_of, refusal}
use Rattle.vee.specs.TestOf.{test_of}
use Rattle.vee.specs.declared.Answer.{Answer}
use Rattle.vee.specs.declared.Answer.TheVariants as answer
use Rattle.plan.specs.declared.Refusal.{Refusal}
use Rattle.worst.specs.WorstMinute.{Found, worst_of, day_of, day_written}
use Rattle.halves.specs.Answers.{answer_with}
use Rattle.halves.specs.OfFile.{of_file}

-- the reader's refusal, or 0 and how many records there are
abbrev pub check_answer : List ℕ → ℕ
check_answer s = answer_with (number_in (read_of s)) (place_in (read_of s)) (plan_in (read_of s)).count

-- the plan test and the worst finishing minute
abbrev pub test_file : List ℕ → Answer
test_file s = of_file s test_of answer.Refused

abbrev pub worst_file : List ℕ → Result Found Refusal
worst_file s = of_file s worst_of (λ number place. Err (refusal number place))

-- the day of a projection, and the buffer after it
abbrev pub day_file : List ℕ → ℕ → List ℕ → Result ℕ Refusal
day_file s n out = of_file s (λ p. day_of p n out) (λ number place. Err (refusal number place))

abbrev pub day_left : List ℕ → ℕ → List ℕ → List ℕ
day_left s n out = of_file s (λ p. day_written p n out) (λ number place. out)

abbrev pub day_answer : Result ℕ Refusal → ℕ
day_answer (Err x) = answer_with x.number x.place 0
day_answer (Ok events) = answer_with 0 0 events
