-- Document 01, "Wrong readings": a plan whose shortest and longest durations are good and which does not pass, computed on
-- the rules. Assumes nothing.
use mathlib.Core.Path.{◌≡◌, refl}
use mathlib.Core.List.{List, [], ◌∷◌}
use Prim.Native.Nat.{ℕ}
use lib.IntN.{pos, negsuc}
use lib.ListN.{get_or}
use Rattle.plan.specs.APlan.{plan_of, points, how_many, some, first_that}
use Rattle.plan.specs.ReplyNumbers.{check_with, first_bad_with, number_for_with, last_kind}
use Rattle.plan.specs.Haul.{a_point, a_link, an_ordinary, a_wait}
use Rattle.records.specs.declared.Record.{Record}
use Rattle.vee.specs.declared.Answer.{Answer}
use Rattle.vee.specs.declared.Answer.TheVariants.{Yes, Pair}
use Rattle.vee.specs.PlanTest.{spans, spread, projections, unset, many}
use Rattle.vee.specs.TestOf.{arcs, listed, at_once, passes, first_from, judge_of, test_from, test_of}

-- five points, link (0, 1, 10, 1): the shortest path from 2 to 3 changes inside its bounds
abbrev pub inside_records : List Record
inside_records =
    a_point 0
    ∷ a_point 1
    ∷ a_point 2
    ∷ a_point 3
    ∷ a_point 4
    ∷ a_link 0 1 10 1
    ∷ an_ordinary 2 (negsuc 1) 0
    ∷ an_ordinary 1 (pos 6) 3
    ∷ an_ordinary 0 (pos 13) 3
    ∷ an_ordinary 2 (pos 6) 4
    ∷ an_ordinary 4 (negsuc 0) 3
    ∷ a_wait 2 1 10
    ∷ []

-- what is found of its projection number i alone
abbrev pub judged : ℕ → Answer
judged i = judge_of (points inside_records) i (arcs inside_records (get_or (projections (spans inside_records) unset) i unset) inside_records)

-- "Wrong readings": the shortest and the longest duration are good, and the plan does not pass
pub record EndsOnly : Type 0 where
  pub shortest : judged 0 ≡ Yes 1
  pub longest : judged 9 ≡ Yes 10
  pub inside : test_of (plan_of inside_records) ≡ Pair 1 2 3

pub ends_only : EndsOnly
unfolding test_of test_from judge_of first_from passes at_once listed arcs spans spread projections many how_many some first_that check_with first_bad_with number_for_with last_kind
ends_only = record { shortest = refl; longest = refl; inside = refl }
