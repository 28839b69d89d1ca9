-- The event that the kept numbers of a board give, whatever the rooms hold: `kept` is the room of them, n the number of points, `starts`
-- has the A of the link that ends at each point and w its duration; s is the sheet. Assumes nothing.
use Rattle.std.specs.Prelude.{◌≡◌, Bool, not, ◌&&◌, List, [], ◌∷◌, ℕ, zero, suc, ◌+◌, ◌%◌, ◌^◌, ◌<◌, min, eqb, ltb, leb, length, get_or, if◌then◌else◌}
use Rattle.points.specs.Sets.{member, from}
use Rattle.plan.specs.Limits.{most_points}
use Rattle.lowhigh.specs.Rules.{never}
use Rattle.board.specs.Events.{no_point}
use Rattle.events.specs.declared.Event.{Event}
use Rattle.rows.specs.Sheet.{by, kind_at, from_at, over_at}
use Rattle.neighbours.specs.Lists.{key_at, Indexed}
use Rattle.kept.specs.Begins.{Begun}
use Rattle.kept.specs.Rooms.{minutes_at, done_at}
use Rattle.kept_windows.specs.Answers.{low_at}
use Rattle.promise.specs.Plays.{set_of}
use Rattle.steps.specs.declared.Least.{Least}

-- ---- the links

-- the A of the first link to C among the n rows from row i on, past the last place where there is none
unfoldable pub start_from : List ℕ → ℕ → ℕ → ℕ → ℕ
start_from s C i zero = most_points
start_from s C i (suc n) =
    if eqb (kind_at s i) 2 && eqb C (over_at s i % most_points) then from_at s i % most_points
    else start_from s C (suc i) n

pub record StartsIn (s : List ℕ) (m : ℕ) (starts : List ℕ) : Type 0 where
  pub long : length starts ≡ most_points
  pub each : (C : ℕ) → C < most_points → get_or starts C 0 ≡ start_from s C 0 m

-- the rooms of a run, from the first m rows: the lists by the point that sets a row free, by its first point and by its link's C; what
-- is kept of the fresh board; and where the links start
pub record RoomsOf (s : List ℕ) (m : ℕ) (into out ends begun starts : List ℕ) : Type 0 where
  pub into_is : Indexed (key_at s 3 2) m into
  pub out_is : Indexed (key_at s 3 1) m out
  pub ends_is : Indexed (key_at s 4 5) m ends
  pub begun_is : Begun s m begun
  pub starts_in : StartsIn s m starts

-- ---- one point

-- a foreman's point not yet done that nothing holds
abbrev pub open_by : List ℕ → List ℕ → ℕ → ℕ → Bool
open_by kept starts n q =
    (ltb q n && (leb most_points (get_or starts q 0) && not (member (get_or kept done_at 0) q))) && eqb (get_or kept q 0) 0

-- the Low of an open point, past every minute where q is not open
abbrev pub low_by : List ℕ → List ℕ → ℕ → ℕ → ℕ
low_by kept starts n q =
    if open_by kept starts n q then low_at kept q else never

-- the link that ends at C is running: A done, C not
abbrev pub runs_by : List ℕ → List ℕ → ℕ → Bool
runs_by kept starts C = member (get_or kept done_at 0) (get_or starts C 0) && not (member (get_or kept done_at 0) C)

-- when it ends, past every minute where it is not running
abbrev pub end_by : List ℕ → List ℕ → List ℕ → ℕ → ℕ
end_by kept starts w C =
    if runs_by kept starts C then min (get_or kept (minutes_at + get_or starts C 0 % most_points) 0 + by w C % 2 ^ 32) never
    else never

-- it ends at t
abbrev pub ends_then : List ℕ → List ℕ → List ℕ → ℕ → ℕ → Bool
ends_then kept starts w t C = eqb (end_by kept starts w C) t && ltb t never

-- ---- all points

-- what is found so far, or the point q at t where that is sooner
abbrev pub nearer : Least → ℕ → ℕ → Least
nearer found t q = if ltb t found.minute then record { minute = t; point = q } else found

unfoldable pub nearest_from : (ℕ → ℕ) → Least → List ℕ → Least
nearest_from f found [] = found
nearest_from f found (q ∷ qs) = nearest_from f (nearer found (f q) q) qs

-- the least of all points, and the first point that has it
abbrev pub nearest : (ℕ → ℕ) → Least
nearest f = nearest_from f (record { minute = never; point = no_point }) (from 0 most_points)

-- the aim, or the end of a link at t where that is before it
abbrev pub earlier : Least → ℕ → Least
earlier aim t = if leb aim.minute t then aim else record { minute = t; point = no_point }

abbrev pub first_by : List ℕ → List ℕ → ℕ → List ℕ → Least
first_by kept starts n w = earlier (nearest (low_by kept starts n)) (nearest (end_by kept starts w)).minute

-- the event at t, with all that ends then
abbrev pub event_at : List ℕ → List ℕ → List ℕ → Least → Event
event_at kept starts w first =
    record { minute = first.minute; point = first.point; set = set_of (ends_then kept starts w first.minute) (from 0 most_points) }

abbrev pub event_by : List ℕ → List ℕ → ℕ → List ℕ → Event
event_by kept starts n w = event_at kept starts w (first_by kept starts n w)
