-- What an event s does to the clock, the done points, their minutes and the numbers of their events, by the links l and the
-- windows w. No reader of the rules needs this page. Assumes nothing.
use Rattle.std.specs.Prelude.{◌≡◌, not, List, [], ◌∷◌, ◌++◌, ℕ, ◌+◌, ◌-◌, ◌^◌, ◌<◌, min, eqb, set, if◌then◌else◌}
use Rattle.points.specs.Sets.{members_of, with_of}
use Rattle.history.specs.History.{largest}
use Rattle.links.specs.declared.Links.{Links}
use Rattle.lowhigh.specs.Rules.{never}
use Rattle.events.specs.Fields.{no_point, event_point, event_set}
use Rattle.events.specs.Inside.{event_in}
use Rattle.events.specs.declared.Event.{Event}
use Rattle.windows.specs.Inside.{beside_from}
use Rattle.windows.specs.declared.Windows.{Windows}
use Rattle.planless.specs.ByWindows.{number_by}
use Rattle.taking.specs.declared.Marks.{Marks}
use Rattle.taking.specs.declared.Step.{Step}

-- the places of some points, one after the other set to v
abbrev pub set_all : ℕ → List ℕ → List ℕ → List ℕ
set_all v [] xs = xs
set_all v (p ∷ ps) xs = set_all v ps (set xs p v)

-- some points put into a set, one after the other
abbrev pub with_all : List ℕ → ℕ → ℕ
with_all [] s = s
with_all (p ∷ ps) s = with_all ps (with_of s p)

-- some points done at minute t by the event of number n
abbrev pub marked_by : ℕ → ℕ → List ℕ → Marks → Marks
marked_by t n ps m = record { done = with_all ps m.done; minutes = set_all t ps m.minutes; calls = set_all n ps m.calls }

-- the points of an event
abbrev pub points_of : Event → List ℕ
points_of e = members_of e.set ++ (if eqb e.point no_point then [] else (e.point ∷ []))

-- the number of the next event, as far as there is one
abbrev pub next_of : Marks → ℕ
next_of m = min (largest m.calls (members_of m.done)) (never - 1) + 1

-- what an event of number n does
abbrev pub step_of : ℕ → Event → Marks → Step
step_of n e m = record { number = 0; place = 0; clock = e.minute; marks = marked_by e.minute n (points_of e) m }

-- what an event that is refused does: its number, and the record beside it
abbrev pub refused_with : ℕ → ℕ → ℕ → Marks → Step
refused_with n i clock m = record { number = n; place = i; clock = clock; marks = m }

-- the number with the record beside it, or what the event does
unfoldable pub step_by : Links → ℕ → Marks → Windows → List ℕ → Step
step_by l clock m w s =
    if not (eqb (number_by l clock m.done m.minutes w s) 0)
    then refused_with (number_by l clock m.done m.minutes w s) (beside_from l m.done w (event_point s) (number_by l clock m.done m.minutes w s)) clock m
    else step_of (next_of m) (event_in s) m

-- the set of the event s fits where its number is 0
pub record SetFits (l : Links) (clock done : ℕ) (minutes : List ℕ) (w : Windows) (s : List ℕ) : Type 0 where
  pub fits : number_by l clock done minutes w s ≡ 0 → event_set s < 2 ^ 32
