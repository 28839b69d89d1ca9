-- Single steps, computed by the rules: the aim, the event of a board, the finishing minute of a run. `Alike` builds on it,
-- so that a wrong rule is refused here first. Assumes nothing.
use mathlib.Core.Path.{◌≡◌, refl}
use mathlib.Core.List.{List, [], ◌∷◌}
use Prim.Native.Nat.{ℕ}
use lib.IntN.{negsuc}
use lib.Count.{ones}
use lib.ListN.{set, replicate}
use Rattle.plan.specs.Haul.{a_point, a_link, an_ordinary, haul}
use Rattle.plan.specs.APlan.{plan_of, how_many, some, first_that, place_from, records_of}
use Rattle.plan.specs.ReplyNumbers.{refusal, check_with, first_bad_with, number_for_with, last_kind}
use Rattle.plan.specs.declared.Plan.{Plan}
use Rattle.points.specs.Sets.{member, members_of, with_of, below_of, subset_of, from, every, passing, first_or}
use Rattle.board.specs.Calls.{numbered}
use Rattle.board.specs.Boards.{sound, each, largest}
use Rattle.board.specs.Windows.{greatest, least, least_high}
use Rattle.board.specs.Events.{no_point, take_of, event_number, board_after, mark_all}
use Rattle.board.specs.declared.Board.{Board}
use Rattle.replies.specs.Replies.{state_of}
use Rattle.vee.specs.PlanTest.{Span, spans, unset, many}
use Rattle.vee.specs.TestOf.{test_of}
use Rattle.promise.specs.Plays.{Event, least_of, set_of}
use Rattle.projection_runs.specs.ProjectionRuns.{aim, aimed, next_event, run_from, events_from, finishing}

-- an event: the minute, the foreman's point, the watched ones
abbrev pub at : ℕ → ℕ → ℕ → Event
at t q set = record { minute = t; point = q; set = set }

-- ---- the aim

-- points 0 to 4, link (0, 1, 2, 4), records (1, −5, 0), (2, −5, 0), (3, −9, 0): after 0 the points 1 and 2 are due at one
-- minute and 3 later, and the link, long or short, ends before them
abbrev pub yard : Plan
yard =
    plan_of
    (a_point 0
    ∷ a_point 1
    ∷ a_point 2
    ∷ a_point 3
    ∷ a_point 4
    ∷ a_link 0 1 2 4
    ∷ an_ordinary 1 (negsuc 4) 0
    ∷ an_ordinary 2 (negsuc 4) 0
    ∷ an_ordinary 3 (negsuc 8) 0
    ∷ [])

-- after 0 at minute 0
abbrev begun : Board
begun = record { clock = 0; done = 1; minutes = replicate 32 0; calls = 1 ∷ replicate 31 0 }

-- 1 and 2 are offered from 5 and 3 from 9: the aim is at 5, and the lowest number of those then
yard_aim : aim (records_of yard) begun ≡ 5
unfolding least_of state_of greatest least least_high member from every how_many some first_that place_from
yard_aim = refl

yard_aimed : aimed (records_of yard) begun ≡ 1
unfolding least_of state_of greatest least least_high member from passing first_or how_many some first_that place_from
yard_aimed = refl

-- ---- the event

-- the haul after 0 at 0 and 1 at 10: the truck is on its way, and the fish can be loaded from 45
abbrev driving : Board
driving = record { clock = 10; done = 3; minutes = 0 ∷ 10 ∷ replicate 30 0; calls = 1 ∷ 2 ∷ replicate 30 0 }

-- a drive of 20 minutes ends before the aim, and comes first
comes_before : next_event (records_of haul) (set unset 2 20) driving ≡ at 30 no_point 4
unfolding least_of set_of state_of greatest least least_high member with_of from passing first_or how_many some first_that place_from
comes_before = refl

-- one of 35 ends on it, and goes into the same event
comes_with : next_event (records_of haul) (set unset 2 35) driving ≡ at 45 3 4
unfolding least_of set_of state_of greatest least least_high member with_of from passing first_or how_many some first_that place_from
comes_with = refl

-- one of 50 ends after it
comes_after : next_event (records_of haul) (set unset 2 50) driving ≡ at 45 3 0
unfolding least_of set_of state_of greatest least least_high member with_of from passing first_or how_many some first_that place_from
comes_after = refl

-- then nothing is open, and the event is the truck's
abbrev loaded : Board
loaded =
    record { clock = 45; done = 11; minutes = 0 ∷ 10 ∷ 0 ∷ 45 ∷ replicate 28 0; calls = 1 ∷ 2 ∷ 0 ∷ 3 ∷ replicate 28 0 }

comes_alone : next_event (records_of haul) (set unset 2 50) loaded ≡ at 60 no_point 4
unfolding least_of set_of state_of greatest least least_high member with_of from passing first_or how_many some first_that place_from
comes_alone = refl

-- ---- the finishing minute

-- the longest drive is done at 60, the clock of its last event
pub haul_finishes : finishing haul (set unset 2 50) ≡ 60
unfolding run_from events_from least_of set_of first_or ones take_of event_number board_after mark_all sound numbered each largest state_of greatest least least_high member members_of with_of below_of subset_of from every passing how_many some first_that place_from check_with first_bad_with number_for_with last_kind
haul_finishes = refl
