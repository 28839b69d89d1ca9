-- Document 02, §12, "Plans without watched steps": what is promised of the plan that is made, in the words of the request. p is any
-- plan, and q the plan that is made of it. A weight is a pair of natural numbers, up and down, and stands for up − down. Assumes
-- nothing.
use Rattle.std.specs.Prelude.{◌≡◌, ◌≢◌, ◌↔◌, ◌⊎◌, true, false, ℕ, ◌+◌, ◌<◌, ◌≤◌, get_or}
use Rattle.plan.specs.Limits.{farthest}
use Rattle.plan.specs.APlan.{ordinary, points, blank, records_of}
use Rattle.plan.specs.ReplyNumbers.{refusal, accepted, refused, check_of, number_in, plan_in}
use Rattle.records.specs.declared.Record.{Record}
use Rattle.plan.specs.declared.Plan.{Plan}
use Rattle.network.specs.Walks.{Walk}
use Rattle.network.specs.Passing.{Joined, Cycle}
use Rattle.bounds.specs.Bounds.{bound_kept}
use Rattle.board.specs.declared.Board.{Board}
use Rattle.verdict.specs.Verdicts.{ended_of, verdict_of}
use Rattle.verdict.specs.declared.Verdict.TheVariants.{Kept}
use Rattle.vee.specs.PlanTest.{Has, OrdinaryIn}
use Rattle.vee.specs.TestOf.{entry, test_of}
use Rattle.vee.specs.declared.Answer.TheVariants as answer
use Rattle.promise.specs.Nets.{PassesPlan}
use Rattle.closure.specs.Closing.{has_steps, distances_of, close_of}

-- the ordinary records of a plan, each as an edge from its first point to its second
abbrev pub edges : Plan → ℕ → ℕ → ℕ → ℕ → Type 0
edges p X Y u d = OrdinaryIn (records_of p) X u d Y

-- the shortest distance from X to Y is up − down: a path of p's records has that sum, and none has less
pub record IsShortest (p : Plan) (X Y up down : ℕ) : Type 0 where
  pub up' : ℕ
  pub down' : ℕ
  pub path : Walk (edges p) X Y up' down'
  pub sum : up' + down ≡ up + down'
  pub least : {u d : ℕ} → Walk (edges p) X Y u d → up + d ≤ u + down

-- "one for each pair of different points that a path joins, .. with the shortest distance as bound"
pub record OneEach (p q : Plan) : Type 0 where
  pub differ : {X u d Y : ℕ} → OrdinaryIn (records_of q) X u d Y → X ≢ Y
  pub bound : {X u d Y : ℕ} → OrdinaryIn (records_of q) X u d Y → IsShortest p X Y u d
  pub each : {X Y : ℕ} → X ≢ Y → Joined (edges p) X Y → (u : ℕ) × (d : ℕ) × OrdinaryIn (records_of q) X u d Y

-- the minutes g keep a plan's ordinary records, each as the verdict judges it
abbrev pub KeptBy : Plan → (ℕ → ℕ) → Type 0
KeptBy p g = (r : Record) → Has (records_of p) ordinary r → bound_kept (g r.a) r.first (g r.b) ≡ true

-- "the same choices of minutes keep it as keep the original": any minutes, and any board by the verdict on it
pub record SameMinutes (p q : Plan) : Type 0 where
  pub minutes : (g : ℕ → ℕ) → KeptBy p g ↔ KeptBy q g
  pub ended : (b : Board) → ended_of q b ≡ ended_of p b
  pub verdict : (b : Board) → (verdict_of p b ≡ Kept) ↔ (verdict_of q b ≡ Kept)

-- what is promised of the plan that is made
pub record Stands (p q : Plan) : Type 0 where
  -- it is a plan: no twins, in order, within the limits
  pub accepted : check_of q ≡ accepted
  -- "it passes the test"
  pub passes : PassesPlan q
  pub yes : test_of q ≡ answer.Yes 1
  pub one_each : OneEach p q
  pub same_minutes : SameMinutes p q
  -- "pond codes are carried over", with the points
  pub many : points (records_of q) ≡ points (records_of p)
  pub codes : (i : ℕ) → i < points (records_of p) → get_or (records_of q) i blank ≡ get_or (records_of p) i blank
  -- its distances are the original's, and made again it is the same plan
  pub distances : (X Y : ℕ) → X < points (records_of p) → Y < points (records_of p)
      → entry (distances_of (records_of q)) X Y ≡ entry (distances_of (records_of p)) X Y
  pub again : close_of q ≡ close_of p

-- a distance outside −100,000 to 100,000
pub record Far (p : Plan) : Type 0 where
  pub X : ℕ
  pub Y : ℕ
  pub up : ℕ
  pub down : ℕ
  pub shortest : IsShortest p X Y up down
  pub out : (up + farthest < down) ⊎ (down + farthest < up)

-- the answer to any plan: its own refusal; 61 if a link or wait is present; 62 exactly if some cycle sums below zero; 63 exactly if
-- none does and a distance is out of bounds; else a plan that stands
pub record Answers (p : Plan) : Type 0 where
  pub own : (check_of p).number ≢ 0 → close_of p ≡ refused (check_of p)
  pub steps : (check_of p).number ≡ 0 → has_steps (records_of p) ≡ true → close_of p ≡ refused (refusal 61 0)
  pub below : (check_of p).number ≡ 0 → has_steps (records_of p) ≡ false → (close_of p ≡ refused (refusal 62 0)) ↔ Cycle (edges p)
  pub far : (check_of p).number ≡ 0 → has_steps (records_of p) ≡ false → (Cycle (edges p) → ⊥)
      → (close_of p ≡ refused (refusal 63 0)) ↔ Far p
  pub made : number_in (close_of p) ≡ 0 → Stands p (plan_in (close_of p))
