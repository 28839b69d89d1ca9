-- The starred cases of document 01, computed on the rules: one statement, which the checker computes row by row. Assumes
-- nothing.
use mathlib.Core.Path.{refl}
use lib.Count.{ones}
use Rattle.points.specs.Sets.{member, members_of, with_of, below_of, subset_of, from, every, passing}
use Rattle.plan.specs.APlan.{how_many, some, first_that, place_from}
use Rattle.plan.specs.ReplyNumbers.{check_with, first_bad_with, number_for_with, last_kind}
use Rattle.board.specs.Calls.{numbered}
use Rattle.board.specs.Boards.{sound, each, largest}
use Rattle.board.specs.Windows.{greatest, least, least_high}
use Rattle.replies.specs.Replies.{reply_of, state_of, outcome_of}
use Rattle.board.specs.Events.{take_of, event_number, board_after, mark_all}
use Rattle.board.specs.Streams.{board_after_all}
use Rattle.verdict.specs.Verdicts.{ended_of, verdict_of, first_broken}
use Rattle.vee.specs.PlanTest.{spans, spread, projections, many}
use Rattle.vee.specs.TestOf.{arcs, listed, at_once, passes, first_from, judge_of, test_from, test_of}
use Rattle.cases.specs.Starred.{table, Holds, least_way}

-- The table holds.
pub starred : Holds table
unfolding Holds least_way ones reply_of take_of event_number board_after mark_all board_after_all sound numbered each largest state_of outcome_of greatest least least_high first_broken ended_of verdict_of member members_of with_of below_of subset_of from every passing how_many some first_that place_from check_with first_bad_with number_for_with last_kind test_of test_from judge_of first_from passes at_once listed arcs spans spread projections many
starred =
    (refl, (refl, (refl, (refl, (refl, (refl, (refl, (refl, (refl, (refl, (refl, (refl, (refl, (refl, (refl, (refl, (refl, (refl, (refl, (refl, (refl, (refl, (refl, (refl, (refl, (refl, (refl, (refl, (refl, (refl, (refl, tt)))))))))))))))))))))))))))))))
