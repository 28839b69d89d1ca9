-- What the table l of a plan's links says of them, by the set `done` of done points and the minute of each: which are
-- running, whether each is sound, and an event's numbers 24 to 27. No reader of the rules needs this page. Assumes nothing.
use Rattle.std.specs.Prelude.{Bool, not, ◌&&◌, ◌||◌, List, ℕ, ◌+◌, ltb, leb, get_or, if◌then◌else◌}
use Rattle.points.specs.Sets.{member, members_of, every}
use Rattle.history.specs.History.{minute_in}
use Rattle.links.specs.Inside.{no_end, runs_at, timely_at}
use Rattle.links.specs.declared.End.{End}
use Rattle.links.specs.declared.Links.{Links}

-- the link that the table has for c
abbrev pub end_at : Links → ℕ → End
end_at l c = get_or l.ends c no_end

-- the link e to c is running: A done, C not
abbrev pub runs_to : ℕ → End → ℕ → Bool
runs_to done e c = member done e.from && not (member done c)

-- some link is running
abbrev pub any_runs : Links → ℕ → Bool
any_runs l done = not (every (λ (c : ℕ). not (runs_to done (end_at l c) c)) (members_of l.watched))

-- the link e to p is sound: where C is done, A is done, in an earlier event, and the duration is in bounds; a running one has
-- A + y ≥ clock; a and c are the minutes of A and C, i and j the numbers of their events
abbrev pub sound_to : ℕ → ℕ → End → ℕ → ℕ → ℕ → ℕ → ℕ → Bool
sound_to clock done e a c i j p =
    ((not (member done p) || (member done e.from && (leb (a + e.shortest) c && leb c (a + e.longest))))
    && (not (runs_to done e p) || leb clock (a + e.longest)))
    && (not (member done e.from && member done p) || ltb i j)

abbrev pub sound_at : Links → ℕ → ℕ → List ℕ → List ℕ → ℕ → Bool
sound_at l clock done minutes calls p =
    sound_to clock done (end_at l p) (minute_in minutes (end_at l p).from) (minute_in minutes p) (minute_in calls (end_at l p).from) (minute_in calls p) p

-- 27: the link e to c is not running, or ends in the set, or its y has not run out before minute t; a is the minute of A
abbrev pub not_late_to : ℕ → End → ℕ → ℕ → ℕ → ℕ → Bool
not_late_to done e a t ended c = not (runs_to done e c) || (member ended c || leb t (a + e.longest))

abbrev pub not_late_at : Links → ℕ → List ℕ → ℕ → ℕ → ℕ → Bool
not_late_at l done minutes t ended c = not_late_to done (end_at l c) (minute_in minutes (end_at l c).from) t ended c

-- 24 to 27 in order for a set of points at the minute t, or else `next`
unfoldable pub set_number_of : Links → ℕ → ℕ → List ℕ → ℕ → ℕ → ℕ → ℕ
set_number_of l clock done minutes t set next =
    if ltb t clock then 24
    else (if not (every (runs_at done l) (members_of set)) then 25
    else (if not (every (timely_at minutes l t) (members_of set)) then 26
    else (if not (every (not_late_at l done minutes t set) (members_of l.watched)) then 27
    else next)))
