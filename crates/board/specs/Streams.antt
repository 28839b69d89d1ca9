-- A stream of events on one plan: each goes on from the board that the one before handed back. Document 01, "The printing
-- program", needs of each its number, and the clock and the done points of the board handed back; document 02, §6, the record
-- beside the number. Assumes nothing.
use Rattle.std.specs.Prelude.{not, List, [], ◌∷◌, ◌++◌, ℕ, zero, suc, ◌*◌, ◌/◌, min, eqb, length, take, drop, if◌then◌else◌}
use Rattle.plan.specs.Limits.{record_bytes}
use Rattle.plan.specs.APlan.{records_of}
use Rattle.plan.specs.ReplyNumbers.{check_of}
use Rattle.plan.specs.declared.Plan.{Plan}
use Rattle.board.specs.Boards.{sound}
use Rattle.board.specs.Events.{taken, take_of}
use Rattle.board.specs.declared.Board.{Board}
use Rattle.board.specs.declared.Taken.{Taken}

-- the first n events of some bytes
unfoldable pub events_in : ℕ → List ℕ → List (List ℕ)
events_in zero s = []
events_in (suc n) s = take record_bytes s ∷ events_in n (drop record_bytes s)

-- what is said of one event
abbrev pub said : Taken → List ℕ
said t = t.number ∷ t.place ∷ t.board.clock ∷ t.board.done ∷ []

-- how many numbers that is
abbrev pub said_numbers : ℕ
said_numbers = 4

-- what is said of each of some events, taken one after the other
unfoldable pub said_of : Plan → Board → List (List ℕ) → List ℕ
said_of p b [] = []
said_of p b (s ∷ ss) = said (take_of p b s) ++ said_of p (take_of p b s).board ss

-- the board after them
unfoldable pub board_after_all : Plan → Board → List (List ℕ) → Board
board_after_all p b [] = b
board_after_all p b (s ∷ ss) = board_after_all p (take_of p b s).board ss

-- how many events are taken: all that are whole, as far as there is room to say something of each
abbrev pub many_in : List ℕ → List ℕ → ℕ
many_in s room = min (length s / record_bytes) (length room / said_numbers)

-- the plan's own refusal, or 20, for all the events at once; else 0 and the board after them
unfoldable pub take_all_of : Plan → Board → List ℕ → List ℕ → Taken
take_all_of p b s room =
    if not (eqb (check_of p).number 0) then taken (check_of p).number (check_of p).place b
    else (if not (sound (records_of p) b) then taken 20 0 b
    else taken 0 0 (board_after_all p b (events_in (many_in s room) s)))

-- what the room holds then: for a refusal what it held, else what is said of each event, and the rest as it was
unfoldable pub said_all_of : Plan → Board → List ℕ → List ℕ → List ℕ
said_all_of p b s room =
    if not (eqb (check_of p).number 0) then room
    else (if not (sound (records_of p) b) then room
    else said_of p b (events_in (many_in s room) s) ++ drop (said_numbers * many_in s room) room)
