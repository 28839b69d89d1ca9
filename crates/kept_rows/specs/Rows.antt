-- The room of what is kept, and what one row says and changes of it, whatever the room holds. A reader of the rules can leave this page
-- out. Assumes nothing.
use Rattle.std.specs.Prelude.{Bool, not, ◌&&◌, ◌||◌, List, ℕ, ◌+◌, ◌-◌, ◌%◌, ◌^◌, min, max, eqb, ltb, get_or, set, if◌then◌else◌}
use Rattle.points.specs.Sets.{member}
use Rattle.plan.specs.Limits.{most_points, farthest}
use Rattle.plan.specs.APlan.{one}
use Rattle.lowhigh.specs.Rules.{never}
use Rattle.rows.specs.declared.sheet.Row.{Row}

-- ---- the places: how many records hold each point, then its window so far, its running waits, its High, its minute and the number of
-- its event; then the clock, the done points, and the number of the last event
abbrev pub lows_at : ℕ
lows_at = most_points

abbrev pub runs_at : ℕ
runs_at = lows_at + most_points

abbrev pub highs_at : ℕ
highs_at = runs_at + most_points

abbrev pub minutes_at : ℕ
minutes_at = highs_at + most_points

abbrev pub calls_at : ℕ
calls_at = minutes_at + most_points

abbrev pub clock_at : ℕ
clock_at = calls_at + most_points

abbrev pub done_at : ℕ
done_at = clock_at + 1

abbrev pub last_at : ℕ
last_at = done_at + 1

abbrev pub kept_room : ℕ
kept_room = last_at + 1

-- ---- what one row says

-- from the minute t, so much up and so much down, as a number of 32 bits
abbrev pub reach_of : ℕ → ℕ → ℕ → ℕ → ℕ
reach_of t base up down = min (t + base + up % 2 ^ 32 - down % 2 ^ 32) never

abbrev pub is_ordinary : Row → Bool
is_ordinary x = eqb x.kind 3

abbrev pub is_wait : Row → Bool
is_wait x = eqb x.kind 4

-- it holds its first point shut until the point that it leads to is done
abbrev pub holding : Row → Bool
holding x = (is_ordinary x && ltb 0 x.second) || is_wait x

-- the minute before which it keeps its first point, where the point that it leads to is done at t: by an ordinary record, by a wait
abbrev pub low_by : Row → ℕ → ℕ
low_by x t = if is_ordinary x then reach_of t 0 x.second x.first else 0

abbrev pub run_by : Row → ℕ → ℕ
run_by x t = if is_wait x then reach_of t 0 x.first 0 else 0

-- the minute, 100,000 up, past which it does not let its second point come, where its first is done at t
abbrev pub high_by : Row → ℕ → ℕ
high_by x t = if is_ordinary x then reach_of t farthest x.first x.second else never

-- the points that it holds, that it leads to, and its second
abbrev pub held_by : Row → ℕ
held_by x = x.from % most_points

abbrev pub until_by : Row → ℕ
until_by x = x.to % most_points

abbrev pub over_by : Row → ℕ
over_by x = x.over % most_points

-- ---- what is kept once a point of it is done

-- the point that sets the row x free is done at t
abbrev pub freed : Row → ℕ → List ℕ → List ℕ
freed x t kept =
    set
    (set
    (set kept (held_by x) (get_or kept (held_by x) 0 - one (holding x)))
    (lows_at + held_by x)
    (max (get_or kept (lows_at + held_by x) 0) (low_by x t)))
    (runs_at + held_by x)
    (max (get_or kept (runs_at + held_by x) 0) (run_by x t))

-- the first point of the row x is done at t
abbrev pub bounded : Row → ℕ → List ℕ → List ℕ
bounded x t kept = set kept (highs_at + over_by x) (min (get_or kept (highs_at + over_by x) 0) (high_by x t))

-- A + w of the row x, where it is a wait whose link is running
abbrev pub running : Row → List ℕ → ℕ
running x kept =
    if is_wait x && (member (get_or kept done_at 0) (until_by x) && not (member (get_or kept done_at 0) (over_by x)))
    then reach_of (get_or kept (minutes_at + until_by x) 0) 0 x.first 0
    else 0
