-- Days, computed by the rules, of the haul of document 01, and of a yard with two points due at one minute; and the yard's worst
-- finishing minute. The haul's, of 31 projections, is in `HaulWorst` of `instances`. Assumes nothing.
use mathlib.Core.Path.{◌≡◌, refl}
use Rattle.std.specs.Prelude.{Err}
use mathlib.Core.List.{[], ◌∷◌}
use lib.Count.{ones}
use Rattle.plan.specs.Haul.{haul, circle}
use Rattle.plan.specs.APlan.{how_many, some, first_that, place_from}
use Rattle.plan.specs.ReplyNumbers.{check_with, first_bad_with, number_for_with, last_kind}
use Rattle.points.specs.Sets.{member, members_of, with_of, below_of, subset_of, from, every, passing, first_or}
use Rattle.board.specs.Calls.{numbered}
use Rattle.board.specs.Boards.{sound, each, largest}
use Rattle.board.specs.Windows.{greatest, least, least_high}
use Rattle.board.specs.Events.{no_point, take_of, event_number, board_after, mark_all}
use Rattle.replies.specs.Replies.{state_of}
use Rattle.vee.specs.PlanTest.{spans, spread, projections, many}
use Rattle.vee.specs.TestOf.{arcs, listed, at_once, passes, first_from, judge_of, test_from, test_of}
use Rattle.promise.specs.Plays.{least_of, set_of}
use Rattle.projection_runs.specs.ProjectionRuns.{run_from, events_from}
use Rattle.projection_runs.proofs.ABoard.{at, yard}
use Rattle.plan.specs.ReplyNumbers.{refusal}
use Rattle.worst.specs.WorstMinute.{refused_of, worst_from, worst_of, worst_at, day_events}

-- ---- days

-- the drive takes 20 minutes: the truck is there at 30, before the wait has run out, and then the fish can be loaded at once
haul_shortest : day_events haul 0 ≡ at 0 0 0 ∷ at 10 1 0 ∷ at 30 no_point 4 ∷ at 30 3 0 ∷ []
unfolding events_from least_of set_of first_or ones take_of event_number board_after mark_all sound numbered each largest state_of greatest least least_high member members_of with_of below_of subset_of from every passing how_many some first_that place_from check_with first_bad_with number_for_with last_kind spans spread projections many
haul_shortest = refl

-- 35 minutes: the truck is there on the minute of the aim, and goes into the same event
haul_on_the_aim : day_events haul 15 ≡ at 0 0 0 ∷ at 10 1 0 ∷ at 45 3 4 ∷ []
unfolding events_from least_of set_of first_or ones take_of event_number board_after mark_all sound numbered each largest state_of greatest least least_high member members_of with_of below_of subset_of from every passing how_many some first_that place_from check_with first_bad_with number_for_with last_kind spans spread projections many
haul_on_the_aim = refl

-- 50 minutes: the fish are loaded at 45, when the wait is over, and the board waits for the truck until 60
haul_longest : day_events haul 30 ≡ at 0 0 0 ∷ at 10 1 0 ∷ at 45 3 0 ∷ at 60 no_point 4 ∷ []
unfolding events_from least_of set_of first_or ones take_of event_number board_after mark_all sound numbered each largest state_of greatest least least_high member members_of with_of below_of subset_of from every passing how_many some first_that place_from check_with first_bad_with number_for_with last_kind spans spread projections many
haul_longest = refl

-- of the points that are offered from one minute the lowest number comes first
yard_day : day_events yard 1 ≡ at 0 0 0 ∷ at 2 no_point 16 ∷ at 5 1 0 ∷ at 5 2 0 ∷ at 9 3 0 ∷ []
unfolding events_from least_of set_of first_or ones take_of event_number board_after mark_all sound numbered each largest state_of greatest least least_high member members_of with_of below_of subset_of from every passing how_many some first_that place_from check_with first_bad_with number_for_with last_kind spans spread projections many
yard_day = refl

-- a number past the last projection has no day
no_day : day_events yard 2 ≡ []
unfolding events_from spans spread projections many
no_day = refl

-- ---- worst minutes

-- both projections are done at 9, and the first counts
yard_worst : worst_of yard ≡ worst_at 9 0
unfolding worst_of refused_of worst_from run_from least_of set_of first_or ones take_of event_number board_after mark_all sound numbered each largest state_of greatest least least_high member members_of with_of below_of subset_of from every passing how_many some first_that place_from check_with first_bad_with number_for_with last_kind test_of test_from judge_of first_from passes at_once listed arcs spans spread projections many
yard_worst = refl

circle_worst : worst_of circle ≡ Err (refusal 60 0)
unfolding worst_of refused_of worst_from run_from least_of set_of first_or ones take_of event_number board_after mark_all sound numbered each largest state_of greatest least least_high member members_of with_of below_of subset_of from every passing how_many some first_that place_from check_with first_bad_with number_for_with last_kind test_of test_from judge_of first_from passes at_once listed arcs spans spread projections many
circle_worst = refl
