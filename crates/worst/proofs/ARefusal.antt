-- A refusal, computed by the rules. Assumes nothing.
use mathlib.Core.Path.{◌≡◌, refl}
use mathlib.Core.List.{[], ◌∷◌}
use Rattle.plan.specs.Haul.{a_point, a_link}
use Rattle.plan.specs.APlan.{plan_of, how_many, some, first_that}
use Rattle.plan.specs.ReplyNumbers.{refusal, check_with, first_bad_with, number_for_with, last_kind}
use Rattle.vee.specs.PlanTest.{spans, many}
use Rattle.vee.specs.TestOf.{test_of}
use Rattle.worst.specs.WorstMinute.{refused_of}

-- points 0 and 1, link (0, 1, 4097, 1): 4,097 projections are one too many, and that comes before what the test would say
wide_refused : refused_of (plan_of (a_point 0 ∷ a_point 1 ∷ a_link 0 1 4097 1 ∷ [])) ≡ refusal 13 0
unfolding refused_of test_of spans many how_many some first_that check_with first_bad_with number_for_with last_kind
wide_refused = refl
