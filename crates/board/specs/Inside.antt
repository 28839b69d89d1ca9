-- What the crate's own functions keep of a plan, and what they answer of it: no reader of the open functions needs this
-- page. Assumes nothing.
use Rattle.std.specs.Prelude.{not, ◌&&◌, ◌||◌, List, [], ◌∷◌, ◌++◌, ℕ, eqb, ltb, leb, if◌then◌else◌}
use Rattle.points.specs.Sets.{members_of}
use Rattle.records.specs.declared.Record.{Record}
use Rattle.board.specs.Windows.{is_open, low, some_open}
use Rattle.board.specs.Stuck.{latest}
use Rattle.board.specs.Events.{no_point, mark_all, event_number, event_record, board_after, taken}
use Rattle.board.specs.declared.Board.{Board}
use Rattle.events.specs.declared.Event.{Event}
use Rattle.board.specs.declared.Taken.{Taken}

-- 28 to 30 in order, or else 0
unfoldable pub point_number : List Record → Board → ℕ → ℕ → ℕ
point_number rs b t p =
    if not (eqb p no_point || is_open rs b p) then 28
    else (if not (eqb p no_point || leb (low rs b p) t) then 29
    else (if some_open rs b && ltb (latest rs b) t then 30
    else 0))

-- one event on a sound board of an accepted plan
unfoldable pub taken_next : List Record → Board → List ℕ → Taken
taken_next rs b s =
    if not (eqb (event_number rs b s) 0) then taken (event_number rs b s) (event_record rs b s) b
    else taken 0 0 (board_after b s)

-- the board at the minute t
abbrev pub clock_at : ℕ → Board → Board
clock_at t b = record { clock = t; done = b.done; minutes = b.minutes; calls = b.calls }

-- the board after an event of number n
abbrev pub after_event : Board → Event → ℕ → Board
after_event b e n =
    mark_all e.minute n (members_of e.set ++ (if eqb e.point no_point then [] else (e.point ∷ []))) (clock_at e.minute b)
