-- Demand 3 in the answers that people are given: the reply that the foreman reads, and document 01's number and values of the reply, the verdict and
-- the plan test. Each statement is a type, and `Answers` in proofs/ proves it. Definitions only. Assumes nothing.
use Rattle.std.specs.Prelude.{◌≡◌, [], ◌∷◌, ℕ, ◌≤◌, ◌<◌, get_or}
use Rattle.plan.specs.Limits.{most_points}
use Rattle.plan.specs.APlan.{records_of}
use Rattle.plan.specs.ReplyNumbers.{check_of}
use Rattle.plan.specs.declared.Plan.{Plan}
use Rattle.board.specs.Stuck.{latest}
use Rattle.board.specs.declared.Board.{Board}
use Rattle.replies.specs.Replies.{shut, state_of, reply_of}
use Rattle.replies.specs.Numbers.{outcome_number, outcome_values, state_values}
use Rattle.replies.specs.declared.State.{State}
use Rattle.replies.specs.declared.Outcome.TheVariants.{Offers}
use Rattle.verdict.specs.Verdicts.{verdict_of}
use Rattle.verdict.specs.Numbers.{verdict_number, verdict_values}
use Rattle.verdict.specs.declared.Verdict.{Verdict}
use Rattle.verdict.specs.declared.Verdict.TheVariants.{Kept}
use Rattle.vee.specs.PlanTest.{Tested, many, spans, most_projections, answer_number, answer_values}
use Rattle.vee.specs.declared.Answer.{Answer}
use Rattle.promise.specs.Nets.{PassesPlan}
use Rattle.promise.specs.Runs.{Run}
use Rattle.promise.specs.Plays.{Choice, Players, Finishes}
use Rattle.promise.specs.DemandThree.{Passing}

-- what the reply's list says of the point q
abbrev pub told : Plan → Board → ℕ → State
told p b q = (get_or (reply_of p b).places q shut).state

-- What plays go by is what the foreman reads: at an offer the latest is the reply's, and each point's state is the one in its list.
abbrev pub AsReplied : Type 0
AsReplied =
    (p : Plan) (b : Board) → (reply_of p b).outcome ≡ Offers
    → ((reply_of p b).latest ≡ latest (records_of p) b) × ((q : ℕ) → q < most_points → told p b q ≡ state_of (records_of p) b q)

-- "any offered choice": the point that a foreman takes has its Low beside it in the reply, and his minute is not past the reply's latest.
abbrev pub ChoiceReplied : Type 0
ChoiceReplied =
    (p : Plan) (b : Board) → (reply_of p b).outcome ≡ Offers → (c : Choice (records_of p) b) → c.point < most_points
    → (state_values (told p b c.point) ≡ c.low ∷ []) × (c.low ≤ c.minute) × (c.minute ≤ (reply_of p b).latest)

-- "the sheet never sticks": the reply to every board that events reach has number 0 and carries no value.
abbrev pub ReplyNumbered : Type 0
ReplyNumbered =
    (p : Plan) → Passing p → (b : Board) (k : ℕ) → Run p b k
    → (outcome_number (reply_of p b).outcome ≡ 0) × (outcome_values (reply_of p b).outcome ≡ [])

-- "every constraint holds at the end": the verdict has number 0 and names no record.
abbrev pub VerdictNumbered : Type 0
VerdictNumbered =
    (p : Plan) (x : Players p) → (f : Finishes p x) → (verdict_number (verdict_of p f.board) ≡ 0) × (verdict_values (verdict_of p f.board) ≡ [])

-- Only kept has number 0 and no value.
abbrev pub KeptNumbered : Type 0
KeptNumbered = (v : Verdict) → verdict_values v ≡ [] → v ≡ Kept

-- "the plan test says yes": number 0, and the one value is how many choices there are.
abbrev pub YesNumbered : Type 0
YesNumbered =
    (p : Plan) (a : Answer) → (check_of p).number ≡ 0 → many (spans (records_of p)) ≤ most_projections → Tested p a → PassesPlan p
    → (answer_number a ≡ 0) × (answer_values a ≡ many (spans (records_of p)) ∷ [])
