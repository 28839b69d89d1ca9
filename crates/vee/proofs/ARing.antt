-- Document 02, §8, the test computed on the smallest plans whose links hang on one another: a chain of two passes, so does a fork,
-- and a ring of two has a cycle at the first projection. Assumes nothing.
use mathlib.Core.Path.{◌≡◌, refl}
use mathlib.Core.List.{[], ◌∷◌}
use Rattle.plan.specs.APlan.{plan_of, how_many, some, first_that}
use Rattle.plan.specs.ReplyNumbers.{check_with, first_bad_with, number_for_with, last_kind}
use Rattle.plan.specs.Haul.{a_point, a_link}
use Rattle.vee.specs.declared.Answer.TheVariants.{Yes, Cycle}
use Rattle.vee.specs.PlanTest.{spans, spread, projections, many}
use Rattle.vee.specs.TestOf.{arcs, listed, at_once, passes, first_from, judge_of, test_from, test_of}

-- A second link from 1, at which the first ends; a third from there as well; and one from 1 back to 0.
pub chain_tested : test_of (plan_of (a_point 0 ∷ a_point 1 ∷ a_point 2 ∷ a_link 0 1 2 1 ∷ a_link 1 3 4 2 ∷ [])) ≡ Yes 4
unfolding test_of test_from judge_of first_from passes at_once listed arcs spans spread projections many how_many some first_that check_with first_bad_with number_for_with last_kind
chain_tested = refl

pub fork_tested : test_of (plan_of (a_point 0 ∷ a_point 1 ∷ a_point 2 ∷ a_point 3 ∷ a_link 0 1 2 1 ∷ a_link 1 3 4 2 ∷ a_link 1 1 2 3 ∷ [])) ≡ Yes 8
unfolding test_of test_from judge_of first_from passes at_once listed arcs spans spread projections many how_many some first_that check_with first_bad_with number_for_with last_kind
fork_tested = refl

pub ring_tested : test_of (plan_of (a_point 0 ∷ a_point 1 ∷ a_link 0 1 2 1 ∷ a_link 1 3 4 0 ∷ [])) ≡ Cycle 0
unfolding test_of test_from judge_of first_from passes at_once listed arcs spans spread projections many how_many some first_that check_with first_bad_with number_for_with last_kind
ring_tested = refl
