-- Document 01, "Events", and document 02, §6: the sixteen bytes of an event, the numbers 21 to 30 in order, the record beside
-- 28, and the board after an event that is taken. rs are the plan's records, b the board before the event, s the event's bytes. What the bytes say is said in
-- `Fields` of `events`, and 25 to 27 by the done set and the minutes in `Ending` of `links` and `History` of `history`.
-- Assumes nothing.
use Rattle.std.specs.Prelude.{Bool, not, ◌&&◌, ◌||◌, List, [], ◌∷◌, ◌++◌, ℕ, eqb, ltb, leb, set, if◌then◌else◌}
use Rattle.points.specs.Sets.{members_of, with_of, every}
use Rattle.plan.specs.APlan.{points, records_of}
use Rattle.plan.specs.ReplyNumbers.{check_of}
use Rattle.records.specs.declared.Record.{Record}
use Rattle.plan.specs.declared.Plan.{Plan}
use Rattle.history.specs.History as history
use Rattle.lowhigh.specs.Rules as lowhigh
use Rattle.links.specs.Ending as links
use Rattle.events.specs.Fields as events
pub use Rattle.events.specs.Fields.{event_minute, event_point, no_point, event_set}
use Rattle.board.specs.Boards.{sound, each}
use Rattle.board.specs.Calls.{next_call}
use Rattle.board.specs.Windows.{is_open, low, some_open}
use Rattle.board.specs.Stuck.{finished, stuck, latest}
use Rattle.board.specs.declared.Board.{Board}
use Rattle.board.specs.declared.Taken.{Taken}

-- 23: sixteen bytes, reserved bytes zero, every point in the plan, and at least one point
abbrev pub well_formed : List Record → List ℕ → Bool
well_formed rs s = events.well_formed (points rs) s

-- 25: the point c ends a running link
abbrev pub ends_running : List Record → Board → ℕ → Bool
ends_running rs b c = links.ends_running rs b.done c

-- 26: at minute t the link that ends at c is within its x to y
abbrev pub in_time : List Record → Board → ℕ → ℕ → Bool
in_time rs b t c = links.in_time rs b.minutes t c

-- 27: the link l is not running, or ends in the set, or its y has not run out before minute t
abbrev pub not_late : Board → ℕ → ℕ → Record → Bool
not_late b t ended l = history.not_late b.done b.minutes t ended l

-- the numbers in order, 0 where the event is taken; windows are those of the board before the event
unfoldable pub event_number : List Record → Board → List ℕ → ℕ
event_number rs b s =
    if finished rs b then 21
    else (if stuck rs b then 22
    else (if not (well_formed rs s) then 23
    else (if ltb (event_minute s) b.clock then 24
    else (if not (every (ends_running rs b) (members_of (event_set s))) then 25
    else (if not (every (in_time rs b (event_minute s)) (members_of (event_set s))) then 26
    else (if not (each (not_late b (event_minute s) (event_set s)) rs) then 27
    else (if not (eqb (event_point s) no_point || is_open rs b (event_point s)) then 28
    else (if not (eqb (event_point s) no_point || leb (low rs b (event_point s)) (event_minute s)) then 29
    else (if some_open rs b && ltb (latest rs b) (event_minute s) then 30
    else 0)))))))))

-- the record beside the number: beside 28 the one that keeps the event's point shut, none where the point is watched or done;
-- none beside any other number
abbrev pub event_record : List Record → Board → List ℕ → ℕ
event_record rs b s = lowhigh.beside rs b.done (event_point s) (event_number rs b s)

-- the points of an event
abbrev pub event_points : List ℕ → List ℕ
event_points s = members_of (event_set s) ++ (if eqb (event_point s) no_point then [] else (event_point s ∷ []))

-- some points done at minute t by the event of number n
unfoldable pub mark_all : ℕ → ℕ → List ℕ → Board → Board
mark_all t n [] b = b
mark_all t n (p ∷ ps) b =
    mark_all t n ps (record { clock = b.clock; done = with_of b.done p; minutes = set b.minutes p t; calls = set b.calls p n })

-- the board after the event: all its points done at its minute, which becomes the clock, by the event of the next number
unfoldable pub board_after : Board → List ℕ → Board
board_after b s =
    mark_all (event_minute s) (next_call b) (event_points s)
    (record { clock = event_minute s; done = b.done; minutes = b.minutes; calls = b.calls })

abbrev pub taken : ℕ → ℕ → Board → Taken
taken n i b = record { number = n; place = i; board = b }

-- the plan's own refusal, then 20, then 21 to 30; a refusal hands the same board back
unfoldable pub take_of : Plan → Board → List ℕ → Taken
take_of p b s =
    if not (eqb (check_of p).number 0) then taken (check_of p).number (check_of p).place b
    else (if not (sound (records_of p) b) then taken 20 0 b
    else (if not (eqb (event_number (records_of p) b s) 0) then taken (event_number (records_of p) b s) (event_record (records_of p) b s) b
    else taken 0 0 (board_after b s)))
