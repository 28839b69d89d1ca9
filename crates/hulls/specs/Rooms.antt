-- A board and a reply as numbers in a room, and a board from one, whatever it holds; of links what `link_numbers` states, handed on. Assumes nothing.
use Rattle.std.specs.Prelude.{List, [], ◌∷◌, ◌++◌, map, ℕ, ◌+◌, ◌*◌, get_or}
use Rattle.points.specs.Sets.{from}
use Rattle.plan.specs.Limits.{most_points}
use Rattle.board.specs.declared.Board.{Board}
use Rattle.replies.specs.declared.State.{State}
use Rattle.replies.specs.declared.State.TheVariants.{Done, Watched, Shut, Held, Offered}
use Rattle.replies.specs.declared.Outcome.{Outcome}
use Rattle.replies.specs.declared.Outcome.TheVariants as outcome
use Rattle.replies.specs.declared.Place.{Place}
use Rattle.replies.specs.declared.Reply.{Reply}
use Rattle.kept.specs.Rooms.{minutes_at, calls_at, clock_at, done_at}
pub use Rattle.link_numbers.specs.Rooms.{links_length, end_numbers, links_room, end_in, end_at, links_in}
unfoldable pub use Rattle.link_numbers.specs.Rooms.{numbers_of}

-- ---- a board: the clock, the done points, the minutes, the numbers of the events

abbrev pub board_length : ℕ
board_length = 2 + 2 * most_points

abbrev pub board_room : Board → List ℕ
board_room b = (b.clock ∷ b.done ∷ []) ++ (b.minutes ++ b.calls)

-- one number for each point, from a place of a room on
abbrev pub table_in : List ℕ → ℕ → List ℕ
table_in s at = map (λ (q : ℕ). get_or s (at + q) 0) (from 0 most_points)

-- the board that an engine's room holds
abbrev pub board_in : List ℕ → Board
board_in kept =
    record {
      clock = get_or kept clock_at 0;
      done = get_or kept done_at 0;
      minutes = table_in kept minutes_at;
      calls = table_in kept calls_at;
    }

-- ---- a reply: what the board is, the latest, and for each point its state and its value

abbrev pub outcome_code : Outcome → ℕ
outcome_code (outcome.Refused n i) = n
outcome_code outcome.Finished = 0
outcome_code outcome.Stuck = 1
outcome_code outcome.Waiting = 2
outcome_code outcome.Offers = 3

abbrev pub state_code : State → ℕ
state_code (Done m) = 0
state_code Watched = 1
state_code (Shut i) = 2
state_code Held = 3
state_code (Offered low) = 4

-- the minute, the record or the Low, where there is one
abbrev pub state_value : State → ℕ
state_value (Done m) = m
state_value Watched = 0
state_value (Shut i) = i
state_value Held = 0
state_value (Offered low) = low

abbrev pub place_numbers : Place → List ℕ
place_numbers p = state_code p.state ∷ state_value p.state ∷ []

abbrev pub reply_room : Reply → List ℕ
reply_room r = (outcome_code r.outcome ∷ r.latest ∷ []) ++ numbers_of place_numbers r.places
