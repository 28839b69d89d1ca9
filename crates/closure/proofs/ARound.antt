-- Worked cases of §12, computed: a round as it is typed and as it is made, and each refusal with its edge. Assumes nothing.
use mathlib.Core.Path.{◌≡◌, refl}
use mathlib.Core.List.{List, [], ◌∷◌, map}
use Prim.Native.Nat.{ℕ}
use lib.IntN.{ℤ, pos, negsuc}
use Rattle.plan.specs.APlan.{plan_of, some, how_many, first_that, records_of}
use Rattle.plan.specs.ReplyNumbers.{number_in, plan_in, check_with, first_bad_with, last_kind, number_for_with}
use Rattle.plan.specs.Haul.{a_point, a_link, an_ordinary, haul}
use Rattle.records.specs.declared.Record.{Record}
use Rattle.plan.specs.declared.Plan.{Plan}
use Rattle.vee.specs.TestOf.{arcs, listed, at_once, passes, first_from}
use Rattle.closure.specs.Closing.{close_of, gathered}

-- points 0 to 2, the middle one of pond 7, and some ordinary records
abbrev round : List Record → List Record
round more = a_point 0 ∷ record { kind = 1; a = 1; b = 0; first = pos 0; second = pos 0; code = 7 } ∷ a_point 2 ∷ more

-- from 1 two paths lead to 0, and the shorter is not the record; nothing leads from 0, and nothing to 1
pub typed : records_of (plan_in (close_of (plan_of (round (an_ordinary 1 (pos 5) 0 ∷ an_ordinary 1 (negsuc 9) 2 ∷ an_ordinary 2 (pos 3) 0 ∷ []))))) ≡ round (an_ordinary 1 (negsuc 6) 0 ∷ an_ordinary 1 (negsuc 9) 2 ∷ an_ordinary 2 (pos 3) 0 ∷ [])
unfolding close_of gathered check_with first_bad_with last_kind number_for_with some how_many arcs listed at_once passes first_from
typed = refl

-- the number of each of some plans
abbrev chain : ℤ → ℤ → Plan
chain d e = plan_of (round (an_ordinary 0 d 1 ∷ an_ordinary 1 e 2 ∷ []))

abbrev ring : ℤ → ℤ → Plan
ring d e = plan_of (round (an_ordinary 0 d 1 ∷ an_ordinary 1 e 0 ∷ []))

abbrev numbers : List Plan → List ℕ
numbers = map (λ (p : Plan). number_in (close_of p))

-- 62 before 63: a cycle of −120,000, and one of −1; one of 0 is none
cycles : numbers (ring (negsuc 59999) (negsuc 59999) ∷ ring (negsuc 4) (pos 4) ∷ ring (negsuc 4) (pos 5) ∷ []) ≡ 62 ∷ 62 ∷ 0 ∷ []
unfolding close_of gathered check_with first_bad_with last_kind number_for_with some how_many first_that arcs listed at_once passes first_from
cycles = refl

-- 63: distances of ±100,000, and one past each
edges : numbers (chain (pos 99999) (pos 1) ∷ chain (pos 100000) (pos 1) ∷ chain (negsuc 99998) (negsuc 0) ∷ chain (negsuc 99999) (negsuc 0) ∷ []) ≡ 0 ∷ 63 ∷ 0 ∷ 63 ∷ []
unfolding close_of gathered check_with first_bad_with last_kind number_for_with some how_many first_that arcs listed at_once passes first_from
edges = refl

-- 61: the haul of document 01; the plan's own number first
others : numbers (haul ∷ plan_of [] ∷ plan_of (a_point 0 ∷ a_point 1 ∷ a_link 0 5 5 1 ∷ []) ∷ []) ≡ 61 ∷ 1 ∷ 11 ∷ []
unfolding close_of gathered check_with first_bad_with last_kind number_for_with some how_many first_that arcs listed at_once passes first_from
others = refl
