-- What the points of an event change of the room of what is kept, whatever the rooms hold. What one row says and changes is stated by
-- `kept_rows`, and handed on. A reader of the rules can leave this page out. Assumes nothing.
use Rattle.std.specs.Prelude.{List, [], ◌∷◌, ℕ, ◌+◌, min, ltb, get_or, set, if◌then◌else◌}
use Rattle.points.specs.Sets.{members_of, with_of}
use Rattle.plan.specs.Limits.{most_points}
use Rattle.lowhigh.specs.Rules.{never}
use Rattle.events.specs.declared.Event.{Event}
use Rattle.rows.specs.Sheet.{row_at}
use Rattle.neighbours.specs.Lists.{entries_of, over, top_at}
pub use Rattle.kept_rows.specs.Rows.{lows_at, runs_at, highs_at, minutes_at, calls_at, clock_at, done_at, last_at, kept_room}
pub use Rattle.kept_rows.specs.Rows.{reach_of, is_ordinary, is_wait, holding, low_by, run_by, high_by, held_by, until_by, over_by, freed, bounded, running}

-- ---- what is kept once a point is done

-- every row by its place in the list of rows: the point that sets it free is done at t
abbrev pub freed_at : List ℕ → ℕ → List ℕ → ℕ → List ℕ
freed_at rows t kept i = freed (row_at rows i) t kept

-- its first point is done at t
abbrev pub bounded_at : List ℕ → ℕ → List ℕ → ℕ → List ℕ
bounded_at rows t kept i = bounded (row_at rows i) t kept

-- its running wait
abbrev pub running_at : List ℕ → List ℕ → ℕ → ℕ
running_at rows kept i = running (row_at rows i) kept

-- the running waits of the point that the record i holds, made anew
abbrev pub remade_at : List ℕ → List ℕ → List ℕ → ℕ → List ℕ
remade_at rows out kept i =
    set kept (runs_at + held_by (row_at rows i)) (top_at (running_at rows kept) (entries_of out (held_by (row_at rows i))))

-- z is done at t by the event of number n: every record that z sets free, and every one that bounds another point from z
abbrev pub marked_by : List ℕ → List ℕ → List ℕ → ℕ → ℕ → ℕ → List ℕ → List ℕ
marked_by rows into out t n z kept =
    set
    (set
    (set (over (bounded_at rows t) (over (freed_at rows t) kept (entries_of into z)) (entries_of out z)) (minutes_at + z) t)
    (calls_at + z)
    n)
    done_at
    (with_of (get_or kept done_at 0) z)

-- and the running waits on the link that ends at z are made anew
abbrev pub done_by : List ℕ → List ℕ → List ℕ → List ℕ → ℕ → ℕ → ℕ → List ℕ → List ℕ
done_by rows into out ends t n z kept = over (remade_at rows out) (marked_by rows into out t n z kept) (entries_of ends z)

-- some points are done at t by the event of number n
unfoldable pub all_done_by : List ℕ → List ℕ → List ℕ → List ℕ → ℕ → ℕ → List ℕ → List ℕ → List ℕ
all_done_by rows into out ends t n [] kept = kept
all_done_by rows into out ends t n (z ∷ zs) kept = all_done_by rows into out ends t n zs (done_by rows into out ends t n z kept)

-- ---- an event

-- the foreman's point, if there is one
abbrev pub points_of : ℕ → List ℕ
points_of p = if ltb p most_points then p ∷ [] else []

-- the number of the next event
abbrev pub next_in : List ℕ → ℕ
next_in kept = min (get_or kept last_at 0 + 1) never

-- the event's minute is the clock, it is the last event, and its points are done
abbrev pub event_done_by : List ℕ → List ℕ → List ℕ → List ℕ → Event → List ℕ → List ℕ
event_done_by rows into out ends e kept =
    all_done_by rows into out ends e.minute (next_in kept) (points_of e.point)
    (all_done_by rows into out ends e.minute (next_in kept) (members_of e.set) (set (set kept clock_at e.minute) last_at (next_in kept)))
