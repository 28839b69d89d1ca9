-- Document 01, "Events": the sixteen bytes of an event s, and when it is well formed in a plan of n points. Assumes nothing.
use Rattle.std.specs.Prelude.{Bool, not, ◌&&◌, ◌||◌, List, ℕ, eqb, ltb, length, get_or}
use Rattle.points.specs.Sets.{below_of, subset_of}
use Rattle.plan.specs.Limits.{record_bytes}
use Rattle.plan.specs.PlanFile.{word_at}

-- 0..4 the minute; 4 the foreman's point or 255 for none; 8..12 the set of watched points
abbrev pub event_minute : List ℕ → ℕ
event_minute s = word_at s 0

abbrev pub event_point : List ℕ → ℕ
event_point s = get_or s 4 0

abbrev pub no_point : ℕ
no_point = 255

abbrev pub event_set : List ℕ → ℕ
event_set s = word_at s 8

-- 23: sixteen bytes, reserved bytes zero, every point in the plan, and at least one point
abbrev pub well_formed : ℕ → List ℕ → Bool
well_formed n s =
    eqb (length s) record_bytes
    && ((eqb (get_or s 5 0) 0 && (eqb (get_or s 6 0) 0 && (eqb (get_or s 7 0) 0 && eqb (word_at s 12) 0)))
    && ((eqb (event_point s) no_point || ltb (event_point s) n)
    && (subset_of (event_set s) (below_of n)
    && not (eqb (event_point s) no_point && eqb (event_set s) 0))))
