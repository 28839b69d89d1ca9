-- Some events at once: the sheet after them, and what it is for that to be the same as one event after the other. Assumes nothing.
use Rattle.std.specs.Prelude.{◌≡◌, ℕ, ◌+◌, ◌*◌, ◌%◌, ◌^◌, List, [], ◌∷◌, ◌++◌, drop}
use Rattle.board.specs.Streams.{events_in, many_in, said, said_numbers, take_all_of, said_all_of}
use Rattle.stream.specs.Sheets.{nothing, next_of}
use Rattle.stream.specs.declared.sheet.Sheet.{Sheet}

-- the sheet after the whole events of some bytes, as many as there is room to say something of; what there is to print of them
-- stands in the room
abbrev pub all_played_of : Sheet → List ℕ → List ℕ → Sheet
all_played_of s bytes room =
    record { stage = s.stage; news = nothing; length = s.length; events = (s.events + many_in bytes room) % 2 ^ 64; last = s.last; plan = s.plan; taken = take_all_of s.plan s.taken.board bytes room }

-- the sheet after some events, one record more at a time; of the front of the input nothing counts by then
unfoldable pub one_by_one : Sheet → List ℕ → List (List ℕ) → Sheet
one_by_one s front [] = s
one_by_one s front (e ∷ es) = one_by_one (next_of s e front) front es

-- what is said of each of them
unfoldable pub said_along : Sheet → List ℕ → List (List ℕ) → List ℕ
said_along s front [] = []
said_along s front (e ∷ es) = said (next_of s e front).taken ++ said_along (next_of s e front) front es

-- taken at once, the events come to the same board, number and plan, and of each the same is said
pub record AtOnce (s : Sheet) (front bytes room : List ℕ) : Type 0 where
  pub board : (all_played_of s bytes room).taken.board ≡ (one_by_one s front (events_in (many_in bytes room) bytes)).taken.board
  pub events : (all_played_of s bytes room).events ≡ (one_by_one s front (events_in (many_in bytes room) bytes)).events
  pub plan : s.plan ≡ (one_by_one s front (events_in (many_in bytes room) bytes)).plan
  pub told : said_all_of s.plan s.taken.board bytes room
      ≡ said_along s front (events_in (many_in bytes room) bytes) ++ drop (said_numbers * many_in bytes room) room
