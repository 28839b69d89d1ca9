-- Document 02, §11, "A lighter plan, with a list of what went": which ordinary records go, in the words of the request, and what is
-- answered. A weight is a pair of natural numbers, up and down, and stands for up − down. Assumes nothing.
use Rattle.std.specs.Prelude.{◌≡◌, ◌≢◌, ◌↔◌, true, List, [], ◌∷◌, ◌++◌, ℕ, suc, ◌+◌, ◌-◌, ◌<◌, ◌≤◌, length, replicate, Result, Ok, Err}
use Rattle.plan.specs.Limits.{most_records}
use Rattle.plan.specs.APlan.{ordinary, is, records_of, plan_of}
use Rattle.plan.specs.ReplyNumbers.{check_of, refusal}
use Rattle.records.specs.declared.Record.{Record}
use Rattle.plan.specs.declared.Plan.{Plan}
use Rattle.plan.specs.declared.Refusal.{Refusal}
use Rattle.network.specs.Projection.{InBounds, Edge}
use Rattle.network.specs.Walks.{Walk}
use Rattle.network.specs.Passing.{Passes}
use Rattle.vee.specs.PlanTest.{net_of, spans, many, most_projections}
use Rattle.lighter.specs.declared.Lighter.{Lighter}

-- the shortest distance from X to Y over the edges E is up − down: a walk has that sum, and none has less
pub record IsDistance (E : ℕ → ℕ → ℕ → ℕ → Type 0) (X Y up down : ℕ) : Type 0 where
  pub up' : ℕ
  pub down' : ℕ
  pub path : Walk E X Y up' down'
  pub sum : up' + down ≡ up + down'
  pub least : {u d : ℕ} → Walk E X Y u d → up + d ≤ u + down

-- "all shortest distances stay the same"
pub record SameDistances (E F : ℕ → ℕ → ℕ → ℕ → Type 0) : Type 0 where
  pub same : (X Y up down : ℕ) → IsDistance E X Y up down ↔ IsDistance F X Y up down

-- ".. in every projection": the records rs and what is left of them, qs, at any durations that are in bounds
pub record SameInEach (rs qs : List Record) : Type 0 where
  pub each : (ω : ℕ → ℕ) → InBounds (net_of rs) ω → SameDistances (Edge (net_of rs) ω) (Edge (net_of qs) ω)

-- the record r of a plan, with the records ks before it and more after it, may go: it is ordinary, "the plan still passes the test
-- without it and all shortest distances stay the same in every projection"
pub record MayGo (ks : List Record) (r : Record) (more : List Record) : Type 0 where
  pub ordinary : is ordinary r ≡ true
  pub passes : Passes (net_of (ks ++ more))
  pub same : SameInEach (ks ++ (r ∷ more)) (ks ++ more)

-- the walk "through the ordinary records in file order": ks are kept so far, rs are still to come, the first of them with number i
-- in the plan as it came in; what is kept in the end, and the numbers of those that are dropped. A record is dropped "whenever"
-- it may go, so a point, a link or a wait never is
pub data Goes : List Record → ℕ → List Record → List Record → List ℕ → Type 0 where
  ends : {ks : List Record} {i : ℕ} → Goes ks i [] ks []
  drops : {ks more qs : List Record} {i : ℕ} {r : Record} {ds : List ℕ} → MayGo ks r more → Goes ks (suc i) more qs ds → Goes ks i (r ∷ more) qs (i ∷ ds)
  keeps : {ks more qs : List Record} {i : ℕ} {r : Record} {ds : List ℕ} → (MayGo ks r more → ⊥) → Goes (ks ++ (r ∷ [])) (suc i) more qs ds → Goes ks i (r ∷ more) qs ds

-- "the lighter plan and the numbers of the records dropped", how many there are, and 0 in the room after them. The list has room for
-- a number of every record that a plan can have, so that it is never too short
abbrev pub lighter_as : List Record → List ℕ → Lighter
lighter_as qs ds =
    record { plan = plan_of qs; count = length ds; dropped = ds ++ replicate (most_records - length ds) 0 }

-- the answer to the plan p: its own refusal; "13 as in the test, then 60 for a plan that doesn't pass"; else the lighter plan
pub data LighterOf (p : Plan) : Result Lighter Refusal → Type 0 where
  refused : (check_of p).number ≢ 0 → LighterOf p (Err (check_of p))
  too_many : (check_of p).number ≡ 0 → most_projections < many (spans (records_of p)) → LighterOf p (Err (refusal 13 0))
  fails : (check_of p).number ≡ 0 → many (spans (records_of p)) ≤ most_projections → (Passes (net_of (records_of p)) → ⊥) → LighterOf p (Err (refusal 60 0))
  made : {qs : List Record} {ds : List ℕ} → (check_of p).number ≡ 0 → many (spans (records_of p)) ≤ most_projections → Passes (net_of (records_of p))
      → Goes [] 0 (records_of p) qs ds → LighterOf p (Ok (lighter_as qs ds))
