-- Document 02, §8, "The second truck starts when the first arrives": a watched point may start links. What an event does to the
-- links that hang on its points, rings of links, and what the plan test reports of a ring. Assumes nothing.
use Rattle.std.specs.Prelude.{◌≡◌, true, false, List, [], ◌∷◌, ℕ, ◌+◌, ◌≤◌, pos, negsuc}
use Rattle.points.specs.Sets.{member}
use Rattle.plan.specs.APlan.{records_of, plan_of}
use Rattle.plan.specs.Held.{All, IsByte}
use Rattle.plan.specs.Haul.{a_point, a_link, an_ordinary, a_wait}
use Rattle.records.specs.declared.Record.{Record}
use Rattle.plan.specs.declared.Plan.{Plan}
use Rattle.board.specs.Boards.{is_done, minute}
use Rattle.board.specs.Events.{event_minute, event_point, event_set, ends_running, take_of}
use Rattle.board.specs.declared.Board.{Board}
use Rattle.network.specs.Projection.{InBounds, Edge}
use Rattle.network.specs.Passing.{Cycle}
use Rattle.vee.specs.declared.Answer.TheVariants as answer
use Rattle.vee.specs.PlanTest.{LinkIn, net_of, spans, many, most_projections}
use Rattle.vee.specs.TestOf.{test_of}
use Rattle.promise.specs.Nets.{PassesPlan}
use Rattle.promise.specs.Plays.{soonest_end, latest_end}

-- ---- an event that ends a link

-- the event s at the board b does the point q
pub record Does (p : Plan) (b : Board) (s : List ℕ) (q : ℕ) : Type 0 where
  pub before : is_done b q ≡ false
  pub after : is_done (take_of p b s).board q ≡ true

-- the board a is reached from the board b by accepted events, each any list of bytes
pub data Onward (p : Plan) (b : Board) : Board → Type 0 where
  here : Onward p b b
  next : {a : Board} (s : List ℕ) → Onward p b a → All IsByte s → (take_of p a s).number ≡ 0 → Onward p b (take_of p a s).board

-- the event s at the board b starts the link (A, x, y, C)
pub record Starts (p : Plan) (b : Board) (s : List ℕ) (A x y C : ℕ) : Type 0 where
  -- the link does not end in that event: C is neither in its set nor the foreman's point
  pub not_in_set : member (event_set s) C ≡ false
  pub not_the_point : event_point s ≡ C → ⊥
  -- it is running after the event
  pub running : ends_running (records_of p) (take_of p b s).board C ≡ true
  -- its duration counts from the event's minute: A has that minute, and C may end x to y minutes after it
  pub from : minute (take_of p b s).board A ≡ event_minute s
  pub soonest : soonest_end (records_of p) (take_of p b s).board C ≡ event_minute s + x
  pub latest : latest_end (records_of p) (take_of p b s).board C ≡ event_minute s + y
  -- and so it is on every later board
  pub ended : (a : Board) → Onward p (take_of p b s).board a → is_done a C ≡ true
      → (event_minute s + x ≤ minute a C) × (minute a C ≤ event_minute s + y)

-- an event that ends a link, with C in its set, starts the ones that hang on it, the links (C, x, y, D), and none of those
-- can end in that event
pub record Chained (p : Plan) (b : Board) (s : List ℕ) : Type 0 where
  pub hanging : {C x y D : ℕ} → member (event_set s) C ≡ true → LinkIn (records_of p) C x y D → Starts p b s C x y D

-- ---- rings

-- links of the records, each of which starts where the one before ends: from A to C
pub data Chain (rs : List Record) : ℕ → ℕ → Type 0 where
  one : {A x y C : ℕ} → LinkIn rs A x y C → Chain rs A C
  more : {A x y B C : ℕ} → LinkIn rs A x y B → Chain rs B C → Chain rs A C

-- links that start one another in a ring: the last ends where the first starts
pub record Ring (rs : List Record) : Type 0 where
  pub at : ℕ
  pub round : Chain rs at at

-- a ring is reported by the plan test as a cycle
pub record Reported (p : Plan) : Type 0 where
  -- whatever durations in bounds are picked, a cycle sums below zero
  pub each : (ω : ℕ → ℕ) → InBounds (net_of (records_of p)) ω → Cycle (Edge (net_of (records_of p)) ω)
  -- so where there are not too many projections the answer is a cycle at the first of them
  pub answered : many (spans (records_of p)) ≤ most_projections → test_of p ≡ answer.Cycle 0
  -- and the plan does not pass, however many there are
  pub fails : PassesPlan p → ⊥

-- ---- examples

-- two trucks in a chain: the first is loaded at 0, leaves at 1 and arrives at 2, which nobody decides; at that moment the
-- second starts, and arrives at 3. The fish are let out at 4, at most 5 minutes before and after that, so not before 10 minutes of
-- the second drive have passed
abbrev pub trucks : Plan
trucks =
    plan_of
    (a_point 0
    ∷ a_point 1
    ∷ a_point 2
    ∷ a_point 3
    ∷ a_point 4
    ∷ a_link 1 20 30 2
    ∷ a_link 2 10 15 3
    ∷ an_ordinary 1 (negsuc 9) 0
    ∷ an_ordinary 3 (pos 5) 4
    ∷ an_ordinary 4 (pos 5) 3
    ∷ a_wait 4 3 10
    ∷ [])

-- three links in a ring
abbrev pub three_round : Plan
three_round = plan_of (a_point 0 ∷ a_point 1 ∷ a_point 2 ∷ a_link 0 5 6 1 ∷ a_link 1 5 6 2 ∷ a_link 2 5 6 0 ∷ [])
