-- What the links l and the windows w say, with the clock, the set `done` of done points and the minute of each: whether a board is
-- stuck, and the numbers 21 to 30 of an event s with the record beside 28. No reader of the rules needs this page. Assumes
-- nothing.
use Rattle.std.specs.Prelude.{Bool, not, List, ℕ, ◌+◌, eqb, ltb, get_or, if◌then◌else◌}
use Rattle.points.specs.Sets.{members_of, below_of, every}
use Rattle.plan.specs.Limits.{farthest}
use Rattle.plan.specs.declared.Refusal.{Refusal}
use Rattle.links.specs.declared.Links.{Links}
use Rattle.events.specs.Fields.{event_minute, event_point, event_set, well_formed}
use Rattle.running.specs.ByTable.{any_runs, set_number_of}
use Rattle.windows.specs.Inside.{latest_from, point_from, beside_from, refused}
use Rattle.windows.specs.declared.Windows.{Windows}

-- stuck: nothing open and no link running, or something open and every open Low above H
abbrev pub stuck_by : Links → ℕ → Windows → Bool
stuck_by l done w =
    if eqb w.opens 0 then not (any_runs l done)
    else every (λ (q : ℕ). ltb w.high (get_or w.lows q 0 + farthest)) (members_of w.opens)

-- 23 to 30 in order for the event s, or else 0
unfoldable pub later_by : Links → ℕ → ℕ → List ℕ → Windows → List ℕ → ℕ
later_by l clock done minutes w s =
    if not (well_formed l.points s) then 23
    else set_number_of l clock done minutes (event_minute s) (event_set s) (point_from w (latest_from clock w.high) (event_minute s) (event_point s))

-- 21 to 30 in order for the event s, or else 0
unfoldable pub number_by : Links → ℕ → ℕ → List ℕ → Windows → List ℕ → ℕ
number_by l clock done minutes w s =
    if eqb done (below_of l.points) then 21
    else (if stuck_by l done w then 22
    else later_by l clock done minutes w s)

-- the number n of the event s with the record beside it
abbrev pub with_record : Links → ℕ → Windows → List ℕ → ℕ → Refusal
with_record l done w s n = refused n (beside_from l done w (event_point s) n)
