-- Document 02, §13, "Worst finishing minute": the run of a projection, from the fresh board. p is the plan, rs its records, w
-- the projection's durations, b the board. Assumes nothing.
use Rattle.std.specs.Prelude.{Bool, true, false, ◌&&◌, List, [], ◌∷◌, ◌++◌, ℕ, zero, suc, ◌+◌, eqb, if◌then◌else◌}
use Rattle.points.specs.Sets.{from, passing, first_or}
use Rattle.plan.specs.Limits.{most_points}
use Rattle.plan.specs.APlan.{points, link_to, records_of}
use Rattle.records.specs.declared.Record.{Record}
use Rattle.plan.specs.declared.Plan.{Plan}
use Rattle.board.specs.Boards.{fresh, minute}
use Rattle.board.specs.Windows.{low}
use Rattle.board.specs.Stuck.{finished}
use Rattle.board.specs.Events.{no_point, take_of}
use Rattle.board.specs.declared.Board.{Board}
use Rattle.replies.specs.Replies.{state_of}
use Rattle.replies.specs.declared.State.{State}
use Rattle.replies.specs.declared.State.TheVariants.{Done, Watched, Shut, Held, Offered}
use Rattle.rows.specs.Sheet.{by}
use Rattle.promise.specs.Plays.{Event, event_bytes, least_of, comes_first}

-- the point q is offered
abbrev pub is_offered : State → Bool
is_offered (Done m) = false
is_offered Watched = false
is_offered (Shut i) = false
is_offered Held = false
is_offered (Offered m) = true

abbrev pub offered : List Record → Board → ℕ → Bool
offered rs b q = is_offered (state_of rs b q)

-- the aim: the lowest offered minute, past every minute where nothing is offered
abbrev pub aim : List Record → Board → ℕ
aim rs b = least_of (offered rs b) (low rs b) (from 0 most_points)

-- of the points offered then the lowest number, none where nothing is offered
abbrev pub aimed : List Record → Board → ℕ
aimed rs b = first_or no_point (passing (λ (q : ℕ). offered rs b q && eqb (low rs b q) (aim rs b)) (from 0 most_points))

-- the minute at which the watched point C falls, where its link is running
abbrev pub falls : List Record → List ℕ → Board → ℕ → ℕ
falls rs w b C = minute b (link_to rs C).a + by w C

-- the event of a board: the aim with the watched points that fall on it; where watched points fall before it, or where the
-- board is waiting, those of the earliest such minute in an event of their own
abbrev pub next_event : List Record → List ℕ → Board → Event
next_event rs w b = comes_first rs b (falls rs w b) (aim rs b) (aimed rs b)

-- the board after it
abbrev pub after : Plan → List ℕ → Board → Board
after p w b = (take_of p b (event_bytes (next_event (records_of p) w b))).board

-- the board that the run reaches from b in k events, or in fewer if it is finished then
unfoldable pub run_from : Plan → List ℕ → ℕ → Board → Board
run_from p w zero b = b
run_from p w (suc k) b = if finished (records_of p) b then b else run_from p w k (after p w b)

-- the events of it
unfoldable pub events_from : Plan → List ℕ → ℕ → Board → List Event
events_from p w zero b = []
events_from p w (suc k) b =
    if finished (records_of p) b then []
    else next_event (records_of p) w b ∷ events_from p w k (after p w b)

-- the run of a projection, in at most as many events as there are points, and its events
abbrev pub run_of : Plan → List ℕ → Board
run_of p w = run_from p w (points (records_of p)) fresh

abbrev pub events_of_run : Plan → List ℕ → List Event
events_of_run p w = events_from p w (points (records_of p)) fresh

-- the finishing minute of a projection's run: the clock of the board that it reaches
abbrev pub finishing : Plan → List ℕ → ℕ
finishing p w = (run_of p w).clock

-- their sixteen bytes each, one after the other
unfoldable pub bytes_of_all : List Event → List ℕ
bytes_of_all [] = []
bytes_of_all (e ∷ es) = event_bytes e ++ bytes_of_all es
