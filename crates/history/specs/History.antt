-- Document 01, "Board, windows, replies" and number 27 of "Events", on plain values: a clock, a set of done points and a
-- minute for each point. `board` says the same words of a board. Assumes nothing.
use Rattle.std.specs.Prelude.{Bool, true, not, ◌&&◌, ◌||◌, List, [], ◌∷◌, ℕ, ◌+◌, max, eqb, ltb, leb, get_or}
use Rattle.points.specs.Sets.{member}
use Rattle.plan.specs.APlan.{link, is, gap_of}
use Rattle.records.specs.declared.Record.{Record}

-- the minute of a point
abbrev pub minute_in : List ℕ → ℕ → ℕ
minute_in minutes p = get_or minutes p 0

-- a link's x and y
abbrev pub shortest : Record → ℕ
shortest l = (gap_of l.first).up

abbrev pub longest : Record → ℕ
longest l = (gap_of l.second).up

-- a running link: A done, C not
abbrev pub runs : ℕ → Record → Bool
runs done l = is link l && (member done l.a && not (member done l.b))

-- every one of the records is so
unfoldable pub each : (Record → Bool) → List Record → Bool
each so [] = true
each so (r ∷ rs) = so r && each so rs

-- the largest minute of some points, 0 for none
unfoldable pub largest : List ℕ → List ℕ → ℕ
largest minutes [] = 0
largest minutes (p ∷ ps) = max (minute_in minutes p) (largest minutes ps)

-- a point not done holds 0, and no minute is past the clock
abbrev pub fits : ℕ → ℕ → List ℕ → ℕ → Bool
fits clock done minutes p = (member done p || eqb (minute_in minutes p) 0) && leb (minute_in minutes p) clock

-- where C is done, A is done and the duration is in bounds; a running link has A + y ≥ clock; a and c are the minutes of A
-- and C
abbrev pub in_bounds_from : ℕ → ℕ → ℕ → ℕ → Record → Bool
in_bounds_from clock done a c l =
    not (is link l)
    || ((not (member done l.b)
    || (member done l.a && (leb (a + shortest l) c && leb c (a + longest l))))
    && (not (runs done l) || leb clock (a + longest l)))

abbrev pub in_bounds : ℕ → ℕ → List ℕ → Record → Bool
in_bounds clock done minutes l = in_bounds_from clock done (minute_in minutes l.a) (minute_in minutes l.b) l

-- 27: the link l is not running, or ends in the set, or its y has not run out before minute t; a is the minute of A
abbrev pub not_late_from : ℕ → ℕ → ℕ → ℕ → Record → Bool
not_late_from done t ended a l = not (runs done l) || (member ended l.b || leb t (a + longest l))

abbrev pub not_late : ℕ → List ℕ → ℕ → ℕ → Record → Bool
not_late done minutes t ended l = not_late_from done t ended (minute_in minutes l.a) l

-- document 02, §7: where A and C are both done, A is in an earlier event than C; a and c are the numbers of their events
abbrev pub earlier_from : ℕ → ℕ → ℕ → Record → Bool
earlier_from done a c l = not (is link l) || (not (member done l.a && member done l.b) || ltb a c)

abbrev pub earlier : ℕ → List ℕ → Record → Bool
earlier done calls l = earlier_from done (minute_in calls l.a) (minute_in calls l.b) l
