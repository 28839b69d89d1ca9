-- The worst finishing minute of the haul of document 01, computed by the rules. Assumes nothing.
use mathlib.Core.Path.{◌≡◌, refl}
use lib.Count.{ones}
use Rattle.plan.specs.Haul.{haul}
use Rattle.plan.specs.APlan.{how_many, some, first_that, place_from}
use Rattle.plan.specs.ReplyNumbers.{check_with, first_bad_with, number_for_with, last_kind}
use Rattle.points.specs.Sets.{member, members_of, with_of, below_of, subset_of, from, every, passing, first_or}
use Rattle.board.specs.Calls.{numbered}
use Rattle.board.specs.Boards.{sound, each, largest}
use Rattle.board.specs.Windows.{greatest, least, least_high}
use Rattle.board.specs.Events.{take_of, event_number, board_after, mark_all}
use Rattle.replies.specs.Replies.{state_of}
use Rattle.vee.specs.PlanTest.{spans, spread, projections, many}
use Rattle.vee.specs.TestOf.{arcs, listed, at_once, passes, first_from, judge_of, test_from, test_of}
use Rattle.promise.specs.Plays.{least_of, set_of}
use Rattle.worst.specs.ProjectionRuns.{run_from}
use Rattle.worst.specs.WorstMinute.{refused_of, worst_from, worst_of, worst_at}

-- the crew at 0, the truck at 10, and then the longest drive, of 50 minutes: all is done at 60, in the last of 31 projections
pub haul_worst : worst_of haul ≡ worst_at 60 30
unfolding worst_of refused_of worst_from run_from least_of set_of first_or ones take_of event_number board_after mark_all sound numbered each largest state_of greatest least least_high member members_of with_of below_of subset_of from every passing how_many some first_that place_from check_with first_bad_with number_for_with last_kind test_of test_from judge_of first_from passes at_once listed arcs spans spread projections many
haul_worst = refl
