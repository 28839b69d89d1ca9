-- Document 01, "Haul to one pond": its starred cases, 1 to 10, as one table of questions and what the rules say to each.
-- Assumes nothing.
use Rattle.std.specs.Prelude.{◌≡◌, List, [], ◌∷◌, ◌++◌, ℕ, zero, suc, ◌-◌, ltb, get_or, length, replicate, if◌then◌else◌}
use Rattle.plan.specs.Limits.{most_points}
use Rattle.plan.specs.APlan.{plan_of, points, records_of}
use Rattle.plan.specs.Haul.{haul, haul_with, a_wait, circle}
use Rattle.records.specs.declared.Record.{Record}
use Rattle.plan.specs.declared.Plan.{Plan}
use Rattle.board.specs.Boards.{fresh}
use Rattle.replies.specs.Replies.{reply_of, bare, shut}
use Rattle.board.specs.Events.{take_of, no_point}
use Rattle.board.specs.Streams.{board_after_all}
use Rattle.verdict.specs.Verdicts.{verdict_of}
use Rattle.replies.specs.declared.State.{State}
use Rattle.replies.specs.declared.State.TheVariants.{Done, Watched, Shut, Offered}
use Rattle.replies.specs.declared.Place.{Place}
use Rattle.replies.specs.declared.Outcome.TheVariants.{Finished, Stuck, Offers}
use Rattle.replies.specs.declared.Reply.{Reply}
use Rattle.verdict.specs.declared.Verdict.{Verdict}
use Rattle.verdict.specs.declared.Verdict.TheVariants.{Kept}
use Rattle.vee.specs.Tables.{bias, none}
use Rattle.vee.specs.PlanTest.{spans, projections, unset}
use Rattle.vee.specs.TestOf.{Arc, Rows, arcs, entry, better, distances, falling, rising, test_of}
use Rattle.vee.specs.declared.Answer.{Answer}
use Rattle.vee.specs.declared.Answer.TheVariants.{Yes, Pair, Cycle}

-- ---- what can be asked, and what is said to it

-- the test of a plan; how far below zero the shortest path of a projection is from X to Y, and the best of negative edges
-- followed by others; the reply to the board after some events; the number of one more event, and the record beside it; and
-- the verdict
pub data Asked : Type 0 where
  test : Plan → Asked
  shortest : Plan → ℕ → ℕ → ℕ → Asked
  allowed : Plan → ℕ → ℕ → ℕ → Asked
  reply : Plan → List (List ℕ) → Asked
  event : Plan → List (List ℕ) → List ℕ → Asked
  beside : Plan → List (List ℕ) → List ℕ → Asked
  verdict : Plan → List (List ℕ) → Asked

pub data Said : Type 0 where
  answer : Answer → Said
  below : ℕ → Said
  nowhere : Said
  replied : Reply → Said
  number : ℕ → Said
  judged : Verdict → Said

-- the edges of projection i
abbrev pub edges : Plan → ℕ → List Arc
edges p i = let rs = records_of p in arcs rs (get_or (projections (spans rs) unset) i []) rs

-- the least of the ways down to a point below k and then up
unfoldable pub least_way : Rows → Rows → ℕ → ℕ → ℕ → ℕ
least_way g r X Y zero = none
least_way g r X Y (suc M) = better (least_way g r X Y M) (entry g X M) (entry r M Y)

-- how far below zero a distance is, if there is one
abbrev pub below_zero : ℕ → Said
below_zero v = if ltb v none then below (bias - v) else nowhere

abbrev pub said_to : Asked → Said
said_to (test p) = answer (test_of p)
said_to (shortest p i X Y) = below_zero (entry (distances (points (records_of p)) (edges p i)) X Y)
said_to (allowed p i X Y) =
    let n = points (records_of p) in
    below_zero (least_way (falling n (edges p i)) (rising n (edges p i)) X Y n)
said_to (reply p es) = replied (reply_of p (board_after_all p fresh es))
said_to (event p es e) = number (take_of p (board_after_all p fresh es) e).number
said_to (beside p es e) = number (take_of p (board_after_all p fresh es) e).place
said_to (verdict p es) = judged (verdict_of p (board_after_all p fresh es))

-- ---- how the table is written

-- the event that the foreman's point q and the set s happen at minute t, all below 256
abbrev pub at : ℕ → ℕ → ℕ → List ℕ
at t q s = (t ∷ 0 ∷ 0 ∷ 0 ∷ []) ++ ((q ∷ 0 ∷ 0 ∷ 0 ∷ []) ++ ((s ∷ 0 ∷ 0 ∷ 0 ∷ []) ++ (0 ∷ 0 ∷ 0 ∷ 0 ∷ [])))

-- no point, and the set {2}
abbrev pub nobody : ℕ
nobody = no_point

abbrev pub two : ℕ
two = 4

-- 0 at 0, 1 at 12; and after those 2 at 40
abbrev pub left : List (List ℕ)
left = at 0 0 0 ∷ at 12 1 0 ∷ []

abbrev pub arrived : List (List ℕ)
arrived = left ++ (at 40 nobody two ∷ [])

abbrev pub places : List State → List Place
places [] = []
places (s ∷ ss) = record { state = s } ∷ places ss

-- the list of a reply
abbrev pub listed : List State → List Place
listed ss = places ss ++ replicate (most_points - length ss) shut

-- a stuck board with its points
abbrev pub stuck_at : List State → Said
stuck_at ss = replied (record { outcome = Stuck; latest = 0; places = listed ss })

-- an offer with its latest and its points
abbrev pub offers : ℕ → List State → Said
offers t ss = replied (record { outcome = Offers; latest = t; places = listed ss })

pub record Row : Type 0 where
  pub asked : Asked
  pub says : Said

infix 5 ◌gives◌
abbrev pub ◌gives◌ : Asked → Said → Row
◌gives◌ a s = record { asked = a; says = s }

-- ---- the table

abbrev pub table : List Row
table =
    -- 1. test: yes, 31 projections
    (test haul gives answer (Yes 31))
    -- 2. without the wait: projection 0, pair (3, 0); shortest −15, not by such a path
    ∷ (test (plan_of (haul_with [])) gives answer (Pair 0 3 0))
    ∷ (shortest (plan_of (haul_with [])) 0 3 0 gives below 15)
    ∷ (allowed (plan_of (haul_with [])) 0 3 0 gives nowhere)
    -- 3. with wait 34: projection 30, pair (3, 0); shortest −45, best allowed −44
    ∷ (test (plan_of (haul_with (a_wait 3 2 34 ∷ []))) gives answer (Pair 30 3 0))
    ∷ (shortest (plan_of (haul_with (a_wait 3 2 34 ∷ []))) 30 3 0 gives below 45)
    ∷ (allowed (plan_of (haul_with (a_wait 3 2 34 ∷ []))) 30 3 0 gives below 44)
    -- 4. fresh: 0 offered from 0, latest 100,000; 1 and 3 shut, by the record (1, −10, 0) and by the wait (document 02, §6)
    ∷ (reply haul [] gives offers 100000 (Offered 0 ∷ Shut 5 ∷ Watched ∷ Shut 8 ∷ []))
    -- 5. 0 at 0, 1 at 12: 3 offered from 47, latest 100,012
    ∷ (event haul [] (at 0 0 0) gives number 0)
    ∷ (event haul (at 0 0 0 ∷ []) (at 12 1 0) gives number 0)
    ∷ (reply haul left gives offers 100012 (Done 0 ∷ Done 12 ∷ Watched ∷ Offered 47 ∷ []))
    -- 6. then 2 at 32 or 62 taken; 31 or 63 gives 26
    ∷ (event haul left (at 32 nobody two) gives number 0)
    ∷ (event haul left (at 62 nobody two) gives number 0)
    ∷ (event haul left (at 31 nobody two) gives number 26)
    ∷ (event haul left (at 63 nobody two) gives number 26)
    -- 7. instead 3 at 46: 29; 3 at 63, empty set: 27
    ∷ (event haul left (at 46 3 0) gives number 29)
    ∷ (event haul left (at 63 3 0) gives number 27)
    -- 8. instead 3 at 47 with set {2}: taken, finished; at 45 with {2}: 29
    ∷ (event haul left (at 47 3 two) gives number 0)
    ∷ (reply haul (left ++ (at 47 3 two ∷ [])) gives replied (bare Finished))
    ∷ (verdict haul (left ++ (at 47 3 two ∷ [])) gives judged Kept)
    ∷ (event haul left (at 45 3 two) gives number 29)
    -- 9. after 2 at 40: 3 offered from 40, latest 45; at 46: 30
    ∷ (event haul left (at 40 nobody two) gives number 0)
    ∷ (reply haul arrived gives offers 45 (Done 0 ∷ Done 12 ∷ Done 40 ∷ Offered 40 ∷ []))
    ∷ (event haul arrived (at 46 3 0) gives number 30)
    -- 10. points 0, 1, records (0, −5, 1), (1, −5, 0): stuck when fresh; test says cycle at 0
    ∷ (reply circle [] gives stuck_at (Shut 2 ∷ Shut 3 ∷ []))
    ∷ (test circle gives answer (Cycle 0))
    -- document 02, §6: 28 names what keeps 3 shut, and nothing for a point that is watched or done
    ∷ (event haul [] (at 0 3 0) gives number 28)
    ∷ (beside haul [] (at 0 3 0) gives number 8)
    ∷ (event haul left (at 20 2 0) gives number 28)
    ∷ (beside haul left (at 20 2 0) gives number 0)
    ∷ (beside haul left (at 20 1 0) gives number 0)
    ∷ []

-- to each question of a table the rules say what the table says
unfoldable pub Holds : List Row → Type 0
Holds [] = Unit {0}
Holds (r ∷ rs) = (said_to r.asked ≡ r.says) × Holds rs
