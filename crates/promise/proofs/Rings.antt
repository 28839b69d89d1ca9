-- Links that start one another in a ring are reported by the plan test as a cycle: the way back along the ring is a walk of
-- edges from C to A, each of a link's duration below zero, at every projection. Assumes that the plan passes the check.
use mathlib.Core.Path.{◌≡◌, refl, sym, subst}
use mathlib.Core.List.{List}
use Prim.Native.Nat.{ℕ, ◌≤◌, ◌<◌}
use native.Mathlib.Omega.{arith}
use Rattle.plan.specs.APlan.{link_to, records_of}
use Rattle.plan.specs.ReplyNumbers.{check_of}
use Rattle.records.specs.declared.Record.{Record}
use Rattle.plan.specs.declared.Plan.{Plan}
use Rattle.plan.proofs.Accepted.{accepted_plan}
use Rattle.board.specs.Boards.{longest}
use Rattle.network.specs.Projection.{InBounds, Edge, back}
use Rattle.network.specs.Walks.{Walk, nil, step}
use Rattle.network.specs.Passing.{Cycle}
use Rattle.network.proofs.Laws.{append, not_both}
use Rattle.vee.specs.declared.Answer.{Answer}
use Rattle.vee.specs.declared.Answer.TheVariants as answer
use Rattle.vee.specs.PlanTest.{LinkIn, net_of, spans, projections, unset, many, most_projections, edges_of, Found, all_good, good, cycle, pair}
use Rattle.vee.specs.PlanTest.{Tested, refused, too_many, tested}
use Rattle.vee.specs.TestOf.{test_of}
use Rattle.vee.proofs.Testing as testing
use Rattle.vee.proofs.Yes.{Every, also, following, each_in_bounds, yes_passes}
use Rattle.vee.proofs.Executable.{computed}
use Rattle.promise.specs.Nets.{PassesPlan}
use Rattle.promise.specs.Chains.{Chain, one, more, Ring, Reported}
use Rattle.promise.proofs.Nets.{rules_of}
use Rattle.promise.proofs.Players.{longest_in_bounds}

module _ (p : Plan) (ok : (check_of p).number ≡ 0) where
  abbrev rs : List Record
  rs = records_of p

  module _ (ω : ℕ → ℕ) (within : InBounds (net_of rs) ω) where
    -- a walk below zero
    record Below (X Y : ℕ) : Type 0 where
      up : ℕ
      down : ℕ
      walk : Walk (Edge (net_of rs) ω) X Y up down
      below : up < down

    -- the way back along a link
    back_one : {A x y C : ℕ} → LinkIn rs A x y C → Below C A
    back_one l =
        let some = (rules_of rs (accepted_plan p ok)).link_bounds l in
        record { up = _; down = _; walk = step (back l) nil; below = omega (arith, some, within.within l) }

    -- the way back along a chain
    back_all : {A C : ℕ} → Chain rs A C → Below C A
    back_all (one l) = back_one l
    back_all (more l c) =
        let w = back_all c in
        let v = back_one l in
        let both = append (Edge (net_of rs) ω) w.walk v.walk in
        record { up = _; down = _; walk = both; below = omega (arith, w.below, v.below) }

    round_below : Ring rs → Cycle (Edge (net_of rs) ω)
    round_below r =
        let w = back_all r.round in
        record { at = r.at; up = w.up; down = w.down; walk = w.walk; below = w.below }

  module _ (r : Ring rs) where
    -- A plan with a ring does not pass.
    fails : PassesPlan p → ⊥
    fails h =
        let ω : ℕ → ℕ = λ C. longest (link_to rs C) in
        not_both (Edge (net_of rs) ω) (h.each ω (longest_in_bounds p ok)).consistent (round_below ω (longest_in_bounds p ok) r)

    -- where each of some projections has a cycle, the first has
    at_first_lem : {i : ℕ} {ws : List (List ℕ)} {a : Answer} → Every (λ w. Cycle (edges_of rs w)) ws → ((j : ℕ) → a ≡ answer.Yes j → ⊥)
        → Found (edges_of rs) i ws a → a ≡ answer.Cycle i
    at_first_lem {i} e n all_good = absurd (n i refl)
    at_first_lem (also c e) n (good g f) = absurd (not_both _ g.consistent c)
    at_first_lem e n (cycle c) = refl
    at_first_lem (also c e) n (pair h) = absurd (not_both _ h.consistent c)

    found : many (spans rs) ≤ most_projections → {a : Answer} → Tested p a → a ≡ answer.Cycle 0
    found few (refused h) = absurd (h ok)
    found few (too_many e m) = absurd (omega arith)
    found few {a} (tested e m f) = at_first_lem each_below no_yes f
      where
        each_below : Every (λ w. Cycle (edges_of rs w)) (projections (spans rs) unset)
        each_below = following (λ w b. round_below _ b r) (each_in_bounds rs (testing.accepted_plan p ok).1)

        no_yes : (j : ℕ) → a ≡ answer.Yes j → ⊥
        no_yes j h = fails (yes_passes (subst (λ (a : Answer). Tested p a) h (tested e m f)))

-- A plan that is accepted and has a ring is reported as a cycle.
pub ring_reported : (p : Plan) → (check_of p).number ≡ 0 → Ring (records_of p) → Reported p
ring_reported p ok r =
    record { each = λ ω h. round_below p ok ω h r; answered = λ few. found p ok r few (computed p); fails = fails p ok r }
