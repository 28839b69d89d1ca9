-- What is promised of the plan that is made, put together. Assumes nothing.
use mathlib.Core.Path.{◌≡◌, refl, sym, ap, subst, ◌∙◌}
use mathlib.Core.Logic.{◌≢◌, ◌↔◌, ◌⊎◌, inl, inr}
use mathlib.Core.Bool.{Bool, true, false, not, ◌||◌}
use mathlib.Core.List.{List, [], ◌++◌, map}
use Prim.Native.Nat.{ℕ, zero, suc, ◌+◌, ◌-◌, ◌<◌, ◌≤◌}
use native.Mathlib.Omega.{arith}
use lib.Dec.{eqb, ltb}
use lib.ListN.{length, get_or, drop, length-append, length-take, take-append-drop, get_or-append}
use lib.Seq.{get_or-take}
use borrow.Author.Tests.{ltb-true, lt-ltb, ne_eqb}
use Rattle.std.specs.Prelude.{if◌then◌else◌}
use Rattle.plan.specs.Limits.{most_points, most_ordinary, most_records, farthest}
use Rattle.plan.specs.APlan.{points, blank, records_of, plan_of}
use Rattle.plan.specs.ReplyNumbers.{refusal, accepted, refused, taken, check_of, check_with, first_bad, Reading, number_in, plan_in}
use Rattle.plan.specs.Held.{HeldPlan, plain}
use Rattle.plan.proofs.Accepted as plan
use Rattle.plan.proofs.Limited.{verdict, Good, good, same}
use Rattle.plan.proofs.RoundTrip.{records_of_plan, checked_count}
use Rattle.records.specs.declared.Record.{Record}
use Rattle.plan.specs.declared.Plan.{Plan}
use Rattle.plan.specs.declared.Refusal.{Refusal}
use Rattle.network.specs.Projection.{Edge}
use Rattle.network.specs.Walks.{Walk, nil, step}
use Rattle.network.specs.Passing.{Cycle, Consistent, Passes}
use Rattle.network.proofs.Laws.{over, not_both}
use Rattle.tables.specs.Tables.{Table, bias, none}
use Rattle.tables.specs.Distances.{Inside, Distances}
use Rattle.rows.specs.Sheet.{by}
use Rattle.projection.proofs.Laws.{same_distances, same_cycle, same_good, ends}
use Rattle.vee.specs.declared.Answer.TheVariants as answer
use Rattle.vee.specs.PlanTest.{OrdinaryIn, net_of, spans, many, unset, edges_of, Tested}
use Rattle.vee.specs.TestOf.{entry, first, among, has_cycle, test_of}
use Rattle.vee.proofs.Rules.{Valid, valid, both}
use Rattle.vee.proofs.Edges.{to_given, small_given}
use Rattle.vee.proofs.Testing.{accepted_plan, nothing_lasts}
use Rattle.vee.proofs.Yes.{Every, few, passes_yes}
use Rattle.vee.proofs.Executable.{plan_distances, plan_cycle, plan_capped, none_among, first_so, test_is}
use Rattle.board.specs.Boards.{minute}
use Rattle.board.specs.declared.Board.{Board}
use Rattle.verdict.specs.Verdicts.{ended_of}
use Rattle.closure.specs.Closing.{has_steps, distances_of, row_of, records_by, points_in, made_of, too_far, some_too_far, close_of}
use Rattle.closure_promises.specs.Promises.{edges, IsShortest, OneEach, KeptBy, SameMinutes, Stands, Far, Answers}
use Rattle.closure.proofs.Gathering.{gathered_few}
use Rattle.closure.proofs.Networks.{same_entry, Made, made_consistent, made_distances, made_good, kept_made, made_kept}
use Rattle.closure.proofs.Making.{IsPoint, are_points_lem, many_points, row_few, points_kept, no_steps_lem, points_again, or_true, to_made, from_made, to_ordinary, from_ordinary}
use Rattle.closure_promises.proofs.Accepting.{fronts, rest_accepted}
use Rattle.closure.proofs.Coding.{one_among}
use Rattle.closure.proofs.Closes.{same_records, same_far}
use Rattle.closure_promises.proofs.OnePlan.{no_spans, kept_edges, edges_kept, verdict_by, by_verdict, same_ended}

-- the edges of a plan without durations
abbrev E : List Record → ℕ → ℕ → ℕ → ℕ → Type 0
E rs = edges_of rs unset

-- what is answered, by a plan's own refusal and its records
abbrev close_by : Refusal → List Record → Reading
close_by x rs =
    if not (eqb x.number 0) then refused x
    else (if has_steps rs then refused (refusal 61 0)
    else (if has_cycle (points rs) (distances_of rs) then refused (refusal 62 0)
    else (if some_too_far (points rs) (entry (distances_of rs)) then refused (refusal 63 0)
    else taken (made_of rs))))

-- ---- a distance out of bounds

out_there : (up down up' down' : ℕ) → up' + down ≡ up + down' → (up' ≡ 0) × (down' ≡ 0) → (up + farthest < down) ⊎ (down + farthest < up) → ⊥
out_there up down up' down' e z (inl l) = omega (arith, z.0, z.1)
out_there up down up' down' e z (inr l) = omega (arith, z.0, z.1)

far_is : (w up down : ℕ) → w < none → w + down ≡ bias + up → (up + farthest < down) ⊎ (down + farthest < up) → too_far w ≡ true
far_is w up down h e (inl l) = rw (lt-ltb w none h, lt-ltb (w + farthest) bias (omega arith)) refl
far_is w up down h e (inr l) = rw (lt-ltb w none h, lt-ltb (bias + farthest) w (omega arith)) (or_true (ltb (w + farthest) bias))

is_far : (w : ℕ) → too_far w ≡ true → (w < none) × ((w + farthest < bias) ⊎ (bias + farthest < w))
is_far w e =
    let a = both (ltb w none) (ltb (w + farthest) bias || ltb (bias + farthest) w) e in
    (ltb-true w none a.0, go (ltb (w + farthest) bias) refl a.1)
  where
    go : (b : Bool) → ltb (w + farthest) bias ≡ b → (ltb (w + farthest) bias || ltb (bias + farthest) w) ≡ true → (w + farthest < bias) ⊎ (bias + farthest < w)
    go true k h = inl (ltb-true (w + farthest) bias k)
    go false k h = inr (ltb-true (bias + farthest) w (rw k at h))

out_of : (w : ℕ) → (w + farthest < bias) ⊎ (bias + farthest < w) → (w - bias + farthest < bias - w) ⊎ (bias - w + farthest < w - bias)
out_of w (inl l) = inl (omega arith)
out_of w (inr l) = inr (omega arith)

-- ---- a plan that is accepted and has no steps

module _ (p : Plan) (ok : (check_of p).number ≡ 0) (none_there : has_steps (records_of p) ≡ false) where
  abbrev rs : List Record
  rs = records_of p

  abbrev n : ℕ
  n = points (records_of p)

  abbrev f : Table
  f = entry (distances_of (records_of p))

  v : Valid [] (records_of p)
  v = (accepted_plan p ok).1

  inside : Inside (E rs) n
  inside X Y u d e = let k = small_given rs v unset nothing_lasts X Y u d (to_given rs v unset X Y u d e) in (k.0, k.1)

  -- its edges are its ordinary records
  to_records : (X Y u d : ℕ) → E rs X Y u d → edges p X Y u d
  to_records = to_ordinary rs none_there (by unset)

  from_records : (X Y u d : ℕ) → edges p X Y u d → E rs X Y u d
  from_records = from_ordinary rs none_there (by unset)

  -- ---- 62

  cycle_found : Cycle (edges p) → has_cycle n (distances_of rs) ≡ true
  cycle_found c = go (has_cycle n (distances_of rs)) refl
    where
      go : (b : Bool) → has_cycle n (distances_of rs) ≡ b → has_cycle n (distances_of rs) ≡ true
      go true e = e
      go false e = absurd (not_both (E rs) (plan_distances rs v unset nothing_lasts e).1 (same_cycle from_records to_records c))

  found_cycle : has_cycle n (distances_of rs) ≡ true → Cycle (edges p)
  found_cycle e = same_cycle to_records from_records (plan_cycle rs v unset nothing_lasts e)

  -- ---- no cycle

  module _ (calm : has_cycle n (distances_of rs) ≡ false) where
    D : Distances (E rs) n f
    D = (plan_distances rs v unset nothing_lasts calm).0

    c : Consistent (E rs)
    c = (plan_distances rs v unset nothing_lasts calm).1

    -- an entry is the shortest distance
    shortest : (X Y u d : ℕ) → X < n → Y < n → f X Y < none → f X Y + d ≡ bias + u → IsShortest p X Y u d
    shortest X Y u d hx hy h e =
        let a = D.real X Y hx hy h in
        record {
          up' = a.up;
          down' = a.down;
          path = over to_records a.walk;
          sum = omega (arith, a.weight);
          least = λ {u = u'} {d = d'} w. omega (arith, (D.least X Y u' d' hx (over from_records w)).1);
        }

    -- ---- 63

    -- where a walk of some weight begins and ends
    first_point : {X Y u d : ℕ} → Walk (E rs) X Y u d → ((u ≡ 0) × (d ≡ 0) → ⊥) → (X < n) × (Y < n)
    first_point nil z = absurd (z (refl, refl))
    first_point (step e w) z = let i = inside _ _ _ _ e in (i.0, ends (E rs) n inside i.1 w)

    far_found : Far p → some_too_far n f ≡ true
    far_found w =
        let X = w.X in
        let Y = w.Y in
        let path = over from_records w.shortest.path in
        let i = first_point path (λ z. out_there w.up w.down w.shortest.up' w.shortest.down' w.shortest.sum z w.out) in
        let l = D.least X Y w.shortest.up' w.shortest.down' i.0 path in
        let a = D.real X Y i.0 i.1 l.0 in
        let e : f X Y + w.down ≡ bias + w.up = omega (arith, l.1, a.weight, w.shortest.sum, w.shortest.least (over to_records a.walk)) in
        sym (one_among n (λ x. among n (λ y. too_far (f x y))) X i.0 (sym (one_among n (λ y. too_far (f X y)) Y i.1 (far_is (f X Y) w.up w.down l.0 e w.out))))

    found_far : some_too_far n f ≡ true → Far p
    found_far e =
        let X = first n (λ x. among n (λ y. too_far (f x y))) in
        let hx : X < n = ltb-true X n e in
        let r : among n (λ y. too_far (f X y)) ≡ true = first_so n (λ x. among n (λ y. too_far (f x y))) hx in
        let Y = first n (λ y. too_far (f X y)) in
        let hy : Y < n = ltb-true Y n r in
        let t = is_far (f X Y) (first_so n (λ y. too_far (f X y)) hy) in
        record {
          X = X;
          Y = Y;
          up = f X Y - bias;
          down = bias - f X Y;
          shortest = shortest X Y (f X Y - bias) (bias - f X Y) hx hy t.0 (omega arith);
          out = out_of (f X Y) t.1;
        }

    -- ---- the plan that is made

    module _ (held : HeldPlan p) (near : some_too_far n f ≡ false) where
      abbrev made : List Record
      made = made_of rs

      near_all : (X Y : ℕ) → X < n → Y < n → too_far (f X Y) ≡ false
      near_all X Y hx hy = none_among n (λ y. too_far (f X y)) (none_among n (λ x. among n (λ y. too_far (f x y))) near X hx) Y hy

      pts : Every IsPoint (points_in rs)
      pts = are_points_lem rs v

      -- it is accepted
      none_bad : (first_bad [] (map plain made)).number ≡ 0
      unfolding check_with
      none_bad =
          let g : (first_bad [] (map plain (points_in rs ++ drop n rs))).number ≡ 0 = rw (take-append-drop n rs) (good most_ordinary p.count (map plain rs) ok).none in
          ap (λ (x : Refusal). x.number) (fronts [] (points_in rs) (drop n rs) (records_by n f) g) ∙ rest_accepted n f (few rs v) near_all (points_in rs) pts (many_points rs v)

      many_made : (1 ≤ length made) × (length made ≤ most_records)
      many_made =
          let k = checked_count p ok in
          let a : length rs ≡ p.count = omega (arith, length-take p.count p.records, k.1, held.room) in
          let m = plan.any_point rs (plan.accepted_plan p ok) (omega (arith, a, k.0)) in
          let l = gathered_few 0 n most_points (row_of n f) (λ X. omega (arith, row_few n f X, few rs v)) in
          omega (arith, m, l, length-append (points_in rs) (records_by n f), many_points rs v, few rs v)

      is_good : Good most_ordinary (length made) (map plain made)
      is_good = record { some = many_made.0; few = many_made.1; none = none_bad }

      abbrev q : Plan
      q = plan_of (made_of rs)

      is_made : records_of q ≡ made
      is_made = records_of_plan made

      check_made : check_of q ≡ accepted
      unfolding check_with
      check_made = ap (λ (l : List Record). verdict most_ordinary (length made) (map plain l)) is_made ∙ same is_good

      check_zero : (check_of q).number ≡ 0
      check_zero = ap (λ (x : Refusal). x.number) check_made

      v' : Valid [] made
      v' = valid [] made none_bad

      none_made : has_steps made ≡ false
      none_made = no_steps_lem (points_in rs) pts n f

      many_same : points made ≡ n
      many_same = points_kept (points_in rs) pts n f ∙ many_points rs v

      -- its edges are those of the distances, whatever the durations
      to_edge : (ω : ℕ → ℕ) (X Y u d : ℕ) → Made n f X Y u d → Edge (net_of made) ω X Y u d
      to_edge ω X Y u d m = from_ordinary made none_made ω X Y u d (from_made (points_in rs) pts n f X Y u d m)

      from_edge : (ω : ℕ → ℕ) (X Y u d : ℕ) → Edge (net_of made) ω X Y u d → Made n f X Y u d
      from_edge ω X Y u d e = to_made (points_in rs) pts n f X Y u d (to_ordinary made none_made ω X Y u d e)

      -- it passes
      made_passes : Passes (net_of made)
      made_passes = record { each = λ ω b. same_good (to_edge ω) (from_edge ω) (made_good D c) }

      q_passes : Passes (net_of (records_of q))
      q_passes = subst (λ (l : List Record). Passes (net_of l)) (sym is_made) made_passes

      one_run : many (spans (records_of q)) ≡ 1
      unfolding many
      one_run = ap (λ (l : List Record). many (spans l)) is_made ∙ ap many (no_spans made none_made)

      says_yes : test_of q ≡ answer.Yes 1
      says_yes = sym (test_is (subst (λ (k : ℕ). Tested q (answer.Yes k)) one_run (passes_yes check_zero (omega (arith, one_run)) q_passes)))

      -- its distances are the same
      abbrev f' : Table
      f' = entry (distances_of made)

      made_calm : has_cycle (points made) (distances_of made) ≡ false
      made_calm = go (has_cycle (points made) (distances_of made)) refl
        where
          go : (b : Bool) → has_cycle (points made) (distances_of made) ≡ b → has_cycle (points made) (distances_of made) ≡ false
          go false e = e
          go true e = absurd (not_both (Made n f) (made_consistent D c) (same_cycle (from_edge (by unset)) (to_edge (by unset)) (plan_cycle made v' unset nothing_lasts e)))

      same_distance : (X Y : ℕ) → X < points made → Y < points made → f' X Y ≡ f X Y
      same_distance X Y hx hy =
          same_entry
          (plan_distances made v' unset nothing_lasts made_calm).0
          (subst (λ (k : ℕ). Distances (E made) k f) (sym many_same) (same_distances (to_edge (by unset)) (from_edge (by unset)) (made_distances D c)))
          X
          Y
          hx
          hy
          (plan_capped made v' unset nothing_lasts X Y hx hy)
          (plan_capped rs v unset nothing_lasts X Y (omega (arith, many_same)) (omega (arith, many_same)))

      -- made again, it is the same
      far_same : some_too_far (points made) f' ≡ false
      far_same = same_far (points made) f' f same_distance ∙ ap (λ (k : ℕ). some_too_far k f) many_same ∙ near

      made_again : made_of made ≡ made
      made_again =
          (λ i. points_again (points_in rs) pts n f i ++ same_records (points made) f' f same_distance i)
          ∙ ap (λ (k : ℕ). points_in rs ++ records_by k f) many_same

      again : close_of q ≡ taken made
      unfolding close_of
      again =
          (λ i. close_by (check_made i) (is_made i)) ∙ rw (none_made, made_calm, far_same) (ap taken made_again)

      -- one record for each pair that a path joins
      in_made : {X u d Y : ℕ} → OrdinaryIn (records_of q) X u d Y → Made n f X Y u d
      in_made {X} {u} {d} {Y} o = to_made (points_in rs) pts n f X Y u d (subst (λ (l : List Record). OrdinaryIn l X u d Y) is_made o)

      made_in : {X u d Y : ℕ} → Made n f X Y u d → OrdinaryIn (records_of q) X u d Y
      made_in {X} {u} {d} {Y} m = subst (λ (l : List Record). OrdinaryIn l X u d Y) (sym is_made) (from_made (points_in rs) pts n f X Y u d m)

      one_each : OneEach p q
      one_each = record {
        differ = λ o. (in_made o).apart;
        bound = λ {X} {u} {d} {Y} o. let m = in_made o in shortest X Y u d m.from m.to m.joined (omega (arith, m.up, m.down));
        each = λ {X} {Y} x j.
            let path = over from_records j.walk in
            let i = joins x path in
            let l = D.least X Y j.up j.down i.0 path in
            (f X Y - bias, bias - f X Y, made_in (record { from = i.0; to = i.1; apart = x; joined = l.0; up = refl; down = refl }));
      }
        where
          joins : {X Y u d : ℕ} → X ≢ Y → Walk (E rs) X Y u d → (X < n) × (Y < n)
          joins x nil = absurd (x refl)
          joins x (step e w) = let i = inside _ _ _ _ e in (i.0, ends (E rs) n inside i.1 w)

      -- the same minutes keep it
      to_made_minutes : (g : ℕ → ℕ) → KeptBy p g → KeptBy q g
      to_made_minutes g k =
          let a = kept_made D c g (λ X Y u d e. kept_edges rs g k X Y u d (to_records X Y u d e)) in
          edges_kept (records_of q) g (λ X Y u d o. a X Y u d (in_made o))

      from_made_minutes : (g : ℕ → ℕ) → KeptBy q g → KeptBy p g
      from_made_minutes g k =
          let a = made_kept D c g inside (λ X Y u d m. kept_edges (records_of q) g k X Y u d (made_in m)) in
          edges_kept rs g (λ X Y u d o. a X Y u d (from_records X Y u d o))

      none_q : has_steps (records_of q) ≡ false
      none_q = subst (λ (l : List Record). has_steps l ≡ false) (sym is_made) none_made

      many_q : points (records_of q) ≡ n
      many_q = ap (λ (l : List Record). points l) is_made ∙ many_same

      ended_same : (b : Board) → ended_of q b ≡ ended_of p b
      ended_same = same_ended p q ok check_zero none_there none_q many_q

      same_minutes : SameMinutes p q
      same_minutes = record {
        minutes = λ g. (to_made_minutes g, from_made_minutes g);
        ended = ended_same;
        verdict = λ b. (
          λ e. let k = by_verdict p none_there b e in verdict_by q none_q b (to_made_minutes (minute b) k.1) (ap (λ (x : Refusal). x.number) (ended_same b) ∙ k.0),
          λ e. let k = by_verdict q none_q b e in verdict_by p none_there b (from_made_minutes (minute b) k.1) (sym (ap (λ (x : Refusal). x.number) (ended_same b)) ∙ k.0),
        );
      }

      codes : (i : ℕ) → i < n → get_or (records_of q) i blank ≡ get_or rs i blank
      codes i h =
          ap (λ (l : List Record). get_or l i blank) is_made
          ∙ get_or-append (points_in rs) (records_by n f) blank i (omega (arith, many_points rs v))
          ∙ get_or-take n rs i blank h

      is_answer : close_of p ≡ taken made
      unfolding close_of
      is_answer = rw (ok, none_there, calm, near) refl

      stands : Stands p q
      stands = record {
        accepted = check_made;
        passes = q_passes;
        yes = says_yes;
        one_each = one_each;
        same_minutes = same_minutes;
        many = many_q;
        codes = codes;
        distances = λ X Y hx hy. ap (λ (l : List Record). entry (distances_of l) X Y) is_made ∙ same_distance X Y (omega (arith, many_same)) (omega (arith, many_same));
        again = again ∙ sym is_answer;
      }

-- ---- the answers

-- two refusals with their numbers
number_of : {x y : Reading} → x ≡ y → number_in x ≡ number_in y
number_of e = ap number_in e

module _ (p : Plan) where
  abbrev cyc : Bool
  cyc = has_cycle (points (records_of p)) (distances_of (records_of p))

  abbrev out : Bool
  out = some_too_far (points (records_of p)) (entry (distances_of (records_of p)))

  own : (check_of p).number ≢ 0 → close_of p ≡ refused (check_of p)
  unfolding close_of
  own h = rw (ne_eqb (check_of p).number 0 h) refl

  module _ (ok : (check_of p).number ≡ 0) where
    stepped : has_steps (records_of p) ≡ true → close_of p ≡ refused (refusal 61 0)
    unfolding close_of
    stepped h = rw (ok, h) refl

    module _ (free : has_steps (records_of p) ≡ false) where
      is_62 : cyc ≡ true → close_of p ≡ refused (refusal 62 0)
      unfolding close_of
      is_62 h = rw (ok, free, h) refl

      is_63 : cyc ≡ false → out ≡ true → close_of p ≡ refused (refusal 63 0)
      unfolding close_of
      is_63 h k = rw (ok, free, h, k) refl

      is_0 : cyc ≡ false → out ≡ false → close_of p ≡ taken (made_of (records_of p))
      unfolding close_of
      is_0 h k = rw (ok, free, h, k) refl

      from_62 : close_of p ≡ refused (refusal 62 0) → cyc ≡ true
      from_62 e = go cyc refl out refl
        where
          go : (b : Bool) → cyc ≡ b → (d : Bool) → out ≡ d → cyc ≡ true
          go true h d k = h
          go false h true k = absurd (let z : ◌≡◌ {A = ℕ} 63 62 = sym (number_of (is_63 h k)) ∙ number_of e in omega arith)
          go false h false k = absurd (let z : ◌≡◌ {A = ℕ} 0 62 = sym (number_of (is_0 h k)) ∙ number_of e in omega arith)

      from_63 : close_of p ≡ refused (refusal 63 0) → (cyc ≡ false) × (out ≡ true)
      from_63 e = go cyc refl out refl
        where
          go : (b : Bool) → cyc ≡ b → (d : Bool) → out ≡ d → (cyc ≡ false) × (out ≡ true)
          go true h d k = absurd (let z : ◌≡◌ {A = ℕ} 62 63 = sym (number_of (is_62 h)) ∙ number_of e in omega arith)
          go false h true k = (h, k)
          go false h false k = absurd (let z : ◌≡◌ {A = ℕ} 0 63 = sym (number_of (is_0 h k)) ∙ number_of e in omega arith)

      calm_of : (Cycle (edges p) → ⊥) → cyc ≡ false
      calm_of h = go cyc refl
        where
          go : (b : Bool) → cyc ≡ b → cyc ≡ false
          go false e = e
          go true e = absurd (h (found_cycle p ok free e))

      below : (close_of p ≡ refused (refusal 62 0)) ↔ Cycle (edges p)
      below = (λ e. found_cycle p ok free (from_62 e), λ c. is_62 (cycle_found p ok free c))

      far : (Cycle (edges p) → ⊥) → (close_of p ≡ refused (refusal 63 0)) ↔ Far p
      far h = (λ e. found_far p ok free (calm_of h) (from_63 e).1, λ w. is_63 (calm_of h) (far_found p ok free (calm_of h) w))

  -- a plan of which one is made is accepted, has no steps, no such cycle and no such distance
  record Makes : Type 0 where
    ok : (check_of p).number ≡ 0
    free : has_steps (records_of p) ≡ false
    calm : cyc ≡ false
    near : out ≡ false

  makes : number_in (close_of p) ≡ 0 → Makes
  makes e = go (check_of p).number refl (has_steps (records_of p)) refl cyc refl out refl
    where
      go : (k : ℕ) → (check_of p).number ≡ k → (s : Bool) → has_steps (records_of p) ≡ s → (b : Bool) → cyc ≡ b → (d : Bool) → out ≡ d → Makes
      go (suc k) h s i b j d l = absurd (let z : suc k ≡ 0 = sym h ∙ sym (number_of (own (λ w. omega (arith, h)))) ∙ e in omega arith)
      go zero h true i b j d l = absurd (let z : ◌≡◌ {A = ℕ} 61 0 = sym (number_of (stepped h i)) ∙ e in omega arith)
      go zero h false i true j d l = absurd (let z : ◌≡◌ {A = ℕ} 62 0 = sym (number_of (is_62 h i j)) ∙ e in omega arith)
      go zero h false i false j true l = absurd (let z : ◌≡◌ {A = ℕ} 63 0 = sym (number_of (is_63 h i j l)) ∙ e in omega arith)
      go zero h false i false j false l = record { ok = h; free = i; calm = j; near = l }

  made_stands : HeldPlan p → number_in (close_of p) ≡ 0 → Stands p (plan_in (close_of p))
  made_stands held e =
      let m = makes e in
      subst (Stands p) (sym (ap plan_in (is_0 m.ok m.free m.calm m.near))) (stands p m.ok m.free m.calm held m.near)

-- What is promised of the answer to any plan that a program can hold.
pub answers : (p : Plan) → HeldPlan p → Answers p
answers p held = record {
  own = own p;
  steps = λ ok h. stepped p ok h;
  below = λ ok h. below p ok h;
  far = λ ok h c. far p ok h c;
  made = made_stands p held;
}
