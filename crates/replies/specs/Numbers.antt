-- For each answer that is an enum: document 01's reply number, 0 where nothing is refused, and the values that each of its
-- cases carries. Assumes nothing.
use Rattle.std.specs.Prelude.{not, List, [], ◌∷◌, ℕ, eqb, if◌then◌else◌}
use Rattle.plan.specs.APlan.{records_of}
use Rattle.plan.specs.ReplyNumbers.{check_of}
use Rattle.plan.specs.declared.Plan.{Plan}
use Rattle.board.specs.Boards.{sound}
use Rattle.board.specs.declared.Board.{Board}
use Rattle.replies.specs.declared.State.{State}
use Rattle.replies.specs.declared.State.TheVariants.{Done, Watched, Shut, Held, Offered}
use Rattle.replies.specs.declared.Outcome.{Outcome}
use Rattle.replies.specs.declared.Outcome.TheVariants as outcome

-- finished, stuck, waiting and offers are no refusals; a refusal carries its record
abbrev pub outcome_number : Outcome → ℕ
outcome_number (outcome.Refused n i) = n
outcome_number outcome.Finished = 0
outcome_number outcome.Stuck = 0
outcome_number outcome.Waiting = 0
outcome_number outcome.Offers = 0

abbrev pub outcome_values : Outcome → List ℕ
outcome_values (outcome.Refused n i) = i ∷ []
outcome_values outcome.Finished = []
outcome_values outcome.Stuck = []
outcome_values outcome.Waiting = []
outcome_values outcome.Offers = []

-- done at a minute, watched, shut by a record, held, offered from its Low
abbrev pub state_values : State → List ℕ
state_values (Done m) = m ∷ []
state_values Watched = []
state_values (Shut i) = i ∷ []
state_values Held = []
state_values (Offered low) = low ∷ []

-- the number that comes before all else in a call with a board: the plan's own, then 20
abbrev pub call_number : Plan → Board → ℕ
call_number p b =
    if not (eqb (check_of p).number 0) then (check_of p).number
    else (if not (sound (records_of p) b) then 20
    else 0)
