-- The test computed is the test: `test_of` gives the answer that the rules permit, for every plan. Assumes nothing.
use mathlib.Core.Path.{◌≡◌, refl, sym, subst, ◌∙◌}
use mathlib.Core.Logic.{inl, inr}
use mathlib.Core.Bool.{Bool, true, false, not, ◌&&◌}
use mathlib.Core.List.{List, [], ◌∷◌}
use Prim.Native.Nat.{ℕ, zero, suc, ◌+◌, ◌-◌, ◌<◌, ◌≤◌}
use native.Mathlib.Omega.{arith}
use native.Mathlib.Numerals.{add-one}
use native.Mathlib.Decide.{ℕ_discrete, dec_lt}
use lib.Dec.{eqb, ltb}
use lib.ListN.{get_or, length-replicate}
use borrow.Author.Tests.{eqb-true, eqb-false, ltb-true, ltb-false, leb-true, lt-ltb, le-leb, not-true, not-false}
use Rattle.std.specs.Prelude.{if◌then◌else◌}
use Rattle.plan.specs.Limits.{most_points, farthest}
use Rattle.plan.specs.APlan.{points, records_of}
use Rattle.plan.specs.ReplyNumbers.{check_of}
use Rattle.records.specs.declared.Record.{Record}
use Rattle.plan.specs.declared.Plan.{Plan}
use Rattle.network.specs.Walks.{Negative}
use Rattle.network.specs.Passing.{Cycle, Consistent, Fine, Bad}
use Rattle.network.proofs.Laws.{not_both}
use Rattle.vee.specs.declared.Answer.{Answer}
use Rattle.vee.specs.declared.Answer.TheVariants as answer
use Rattle.tables.specs.declared.table.Part.{Part}
use Rattle.tables.specs.declared.table.Part.TheVariants.{All, Falling, Rising}
use Rattle.std.specs.Prelude.{Option, None, Some}
use Rattle.tables.specs.Tables.{Table, bias, none, half, side, Best, Passed, Closing, Closed, Within, Near}
use Rattle.tables.specs.Tables.Closing.{first as at_first_lem, next}
use Rattle.tables.specs.Tables.Closed.{calm, below}
use Rattle.tables.specs.Distances.{Inside, Drawn, Distances}
use Rattle.rows.specs.Sheet.{by}
use Rattle.pairs.specs.Pairs.{FirstPair, no_pair, pair as the_pair}
use Rattle.vee.specs.Walked.{JudgedOf, is_good, has_cycle_lem, has_pair}
use Rattle.vee.specs.PlanTest.{spans, projections, many, most_projections, unset, edges_of, Found, all_good, good, cycle, pair, Tested, refused, too_many, tested}
use Rattle.vee.specs.TestOf.{Arc, arcs, listed, Rows, entry, rows_of, offered, at_once, better, pass, passes, closed, first_from, first, among, has_cycle, is_way, misses, pair_of, answer_of, judge_of, onward, test_from, test_of}
use Rattle.tables.proofs.Closing.{near, distances, cycle as cycle_of}
use Rattle.tables.proofs.Offers.{same_table}
use Rattle.tables.specs.Steps.{takes_of, PartOf}
use Rattle.projection.proofs.Judges.{part_cycle, all_consistent, all_edges, rising_edges, good_by, pair_by}
use Rattle.vee.proofs.Meetings.{Reached, Met, apart, met, Missed, fine, bad}
use Rattle.projection.proofs.Laws.{same_distances, same_cycle, same_consistent, same_good, same_bad}
use Rattle.vee.proofs.Rules.{Valid, both, clash}
use Rattle.vee.proofs.Plans.{gap_up}
use Rattle.vee.proofs.Testing.{accepted_plan, nothing_lasts}
use Rattle.vee.proofs.Yes.{Every, of_spans, in_bounds_lem, few, a_link_lem}
use Rattle.vee.proofs.Yes.Every.{none as no_more, also}
use Rattle.vee.proofs.Single.{one_answer}
use Rattle.vee.proofs.Arcs.{In, given_in, in_given, Small, drawn}
use Rattle.vee.proofs.Edges.{to_given, from_given, small_given}

-- what holds of either choice, where the test says so
by_test : {A : Type 0} (P : A → Type 0) (b : Bool) (x y : A) → (b ≡ true → P x) → (b ≡ false → P y) → P (if b then x else y)
by_test P true x y h k = h refl
by_test P false x y h k = k refl

-- ---- the first number that is so

record FirstOf (i k : ℕ) (so : ℕ → Bool) (r : ℕ) : Type 0 where
  low : i ≤ r
  high : r ≤ i + k
  before : (j : ℕ) → i ≤ j → j < r → so j ≡ false
  here : r < i + k → so r ≡ true

first_of : (i k : ℕ) (so : ℕ → Bool) → FirstOf i k so (first_from i k so)
unfolding first_from
first_of i zero so = record { low = omega arith; high = omega arith; before = λ j h l. absurd (omega arith); here = λ h. absurd (omega arith) }
first_of i (suc k) so = by_test (FirstOf i (suc k) so) (so i) i (first_from (suc i) k so) here (later (first_of (suc i) k so))
  where
    here : so i ≡ true → FirstOf i (suc k) so i
    here e = record { low = omega arith; high = omega arith; before = λ j h l. absurd (omega arith); here = λ h. e }

    later : FirstOf (suc i) k so (first_from (suc i) k so) → so i ≡ false → FirstOf i (suc k) so (first_from (suc i) k so)
    later f e = record { low = omega (arith, f.low); high = omega (arith, f.high); before = before; here = λ h. f.here (omega arith) }
      where
        before : (j : ℕ) → i ≤ j → j < first_from (suc i) k so → so j ≡ false
        before j h l = elim (ℕ_discrete j i) [ yes q ↦ rw q e | no q ↦ f.before j (omega arith) l ]

module _ (n : ℕ) (so : ℕ → Bool) where
  pub first_so : first n so < n → so (first n so) ≡ true
  first_so h = (first_of 0 n so).here (omega arith)

  none_before : (j : ℕ) → j < first n so → so j ≡ false
  none_before j h = (first_of 0 n so).before j (omega arith) h

  pub none_among : among n so ≡ false → (j : ℕ) → j < n → so j ≡ false
  none_among e j h = none_before j (omega (arith, ltb-false (first n so) n e))

-- ---- tables as rows

get_d_listed : {A : Type 0} (i k : ℕ) (f : ℕ → A) (q : ℕ) (d : A) → q < k → get_or (listed i k f) q d ≡ f (i + q)
unfolding listed
get_d_listed i zero f q d h = absurd (omega arith)
get_d_listed i (suc k) f zero d h = let z : i + 0 ≡ i = omega arith in rw z refl
get_d_listed i (suc k) f (suc q) d h = let z : i + suc q ≡ suc i + q = omega arith in rw z (get_d_listed (suc i) k f q d (omega arith))

entry_rows : (n : ℕ) (f : Table) (x y : ℕ) → x < n → y < n → entry (rows_of n f) x y ≡ f x y
entry_rows n f x y hx hy =
    let a : 0 + x ≡ x = omega arith in
    let b : 0 + y ≡ y = omega arith in
    rw (get_d_listed 0 n (λ X. listed 0 n (f X)) x [] hx, a, get_d_listed 0 n (f x) y none hy, b) refl

-- ---- the passes

best_of : (a b c : ℕ) → (b < none → half ≤ b) → (c < none → half ≤ c) → Best a b c (better a b c)
best_of a b c hb hc = go (ltb b none) refl (ltb c none) refl
  where
    go : (p : Bool) → ltb b none ≡ p → (q : Bool) → ltb c none ≡ q → Best a b c (better a b c)
    go true e true f =
        let h = ltb-true b none e in
        let i = ltb-true c none f in
        let k : half + half ≤ b + c = omega (arith, hb h, hc i) in
        rw (e, f) (record { low = omega arith; via = λ _ _. omega arith; from = elim (dec_lt (b + c - bias) a) [ yes l ↦ inr (h, i, omega arith) | no l ↦ inl (omega arith) ] })
    go true e false f = rw (e, f) (record { low = omega arith; via = λ _ i. absurd (omega (arith, ltb-false c none f)); from = inl refl })
    go false e q f = rw e (record { low = omega arith; via = λ h _. absurd (omega (arith, ltb-false b none e)); from = inl refl })

passed : (n k : ℕ) (t : Rows) → k < n → Near n (entry t) → Passed n k (entry t) (entry (pass n k t))
passed n k t pivot h = record {
  cell = λ x y hx hy.
      rw (entry_rows n (λ X Y. better (entry t X Y) (entry t X k) (entry t k Y)) x y hx hy)
      (best_of (entry t x y) (entry t x k) (entry t k y) (h x k hx pivot) (h k y pivot hy));
}

module _ (n : ℕ) (few : n ≤ side) (f : Table) (small : Within farthest n f) where
  -- the passes have come to an end, or a point is below zero from itself to itself
  ended : {k : ℕ} (t : Rows) → Closing n f k (entry t) → (has_cycle n t ≡ false → k ≡ n) → Closed n f (not (has_cycle n t)) (entry t)
  ended {k} t c h = go (has_cycle n t) refl
    where
      go : (b : Bool) → has_cycle n t ≡ b → Closed n f (not (has_cycle n t)) (entry t)
      go true e =
          let x = first n (λ X. ltb (entry t X X) bias) in
          let l : x < n = ltb-true x n e in
          rw e (below c l (ltb-true (entry t x x) bias (first_so n (λ X. ltb (entry t X X) bias) l)))
      go false e = rw e (calm (subst (λ (m : ℕ). Closing n f m (entry t)) (h e) c) (λ x l. ltb-false (entry t x x) bias (none_among n (λ X. ltb (entry t X X) bias) e x l)))

  closes : (k j : ℕ) (t : Rows) → k + j ≡ n → Closing n f k (entry t) → Closed n f (not (has_cycle n (passes n k j t))) (entry (passes n k j t))
  unfolding passes
  closes k zero t e c = ended t c (λ _. omega arith)
  closes k (suc j) t e c =
      by_test (λ t. Closed n f (not (has_cycle n t)) (entry t)) (ltb (entry t k k) bias) t (passes n (suc k) j (pass n k t))
      (λ b. ended t c (λ h. clash (sym b ∙ none_among n (λ X. ltb (entry t X X) bias) h k (omega arith))))
      (λ b. closes (suc k) j (pass n k t) (omega arith) (subst (λ (m : ℕ). Closing n f m (entry (pass n k t))) (add-one k) (next c (omega arith) (ltb-false (entry t k k) bias b) (passed n k t (omega arith) (near few small c)))))

-- no entry is past none, which says that no walk joins the two points
module _ (n : ℕ) where
  abbrev Capped : Rows → Type 0
  Capped t = (X Y : ℕ) → X < n → Y < n → entry t X Y ≤ none

  offered_least : (b : Bool) (v a : ℕ) → a ≤ none → offered b v a ≤ none
  offered_least true v a h = omega arith
  offered_least false v a h = h

  capped_passes : (k j : ℕ) (t : Rows) → Capped t → Capped (passes n k j t)
  unfolding passes
  capped_passes k zero t c = c
  capped_passes k (suc j) t c =
      by_test Capped (ltb (entry t k k) bias) t (passes n (suc k) j (pass n k t)) (λ e. c) (λ e. capped_passes (suc k) j (pass n k t) once)
    where
      once : Capped (pass n k t)
      once X Y hx hy =
          rw (entry_rows n (λ X Y. better (entry t X Y) (entry t X k) (entry t k Y)) X Y hx hy)
          (offered_least (ltb (entry t X k) none && ltb (entry t k Y) none) (entry t X k + entry t k Y - bias) (entry t X Y) (c X Y hx hy))

  capped_at_once : (b : Part) (es : List Arc) (X Y : ℕ) → at_once b es X Y ≤ none
  unfolding at_once
  capped_at_once b [] X Y = by_test (λ (v : ℕ). v ≤ none) (eqb X Y) bias none (λ e. omega arith) (λ e. omega arith)
  capped_at_once b (e ∷ es) X Y =
      offered_least
      (takes_of b e.up e.down && (eqb e.from X && eqb e.to Y))
      (bias + e.up - e.down)
      (at_once b es X Y)
      (capped_at_once b es X Y)

  capped : (b : Part) (es : List Arc) → Capped (closed n b es)
  capped b es = capped_passes 0 n (rows_of n (at_once b es)) (λ X Y hx hy. rw (entry_rows n (at_once b es) X Y hx hy) (capped_at_once b es X Y))

-- ---- the first bad pair

module _ (n : ℕ) (d g r : Rows) where
  module _ (X Y : ℕ) where
    -- whether the way by M is as short
    abbrev way : ℕ → Bool
    way M = is_way (entry g X M) (entry r M Y) (entry d X Y)

    reached : (M : ℕ) → M < n → way M ≡ true → Reached n (entry g) (entry r) X Y (entry d X Y)
    reached M h e =
        let a = both (ltb (entry g X M) none) _ e in
        let b = both (ltb (entry r M Y) none) _ a.1 in
        record { M = M; inside = h; falls = ltb-true (entry g X M) none a.0; rises = ltb-true (entry r M Y) none b.0; short = leb-true (entry g X M + entry r M Y) (entry d X Y + bias) b.1 }

    not_reached : Reached n (entry g) (entry r) X Y (entry d X Y) → among n way ≡ false → ⊥
    not_reached w e =
        let M = w.M in
        let k : way M ≡ true = rw (lt-ltb (entry g X M) none w.falls, lt-ltb (entry r M Y) none w.rises) (le-leb (entry g X M + entry r M Y) (entry d X Y + bias) w.short) in
        clash (sym k ∙ none_among n way e M w.inside)

    is_met : misses n d g r X Y ≡ false → Met n (entry d) (entry g) (entry r) X Y
    is_met e = go (ltb (entry d X Y) none) refl (among n way) refl
      where
        go : (b : Bool) → ltb (entry d X Y) none ≡ b → (c : Bool) → among n way ≡ c → Met n (entry d) (entry g) (entry r) X Y
        go false h c k = apart (ltb-false (entry d X Y) none h)
        go true h true k = let l : first n way < n = ltb-true (first n way) n k in met (reached (first n way) l (first_so n way l))
        go true h false k = clash (rw (h, k) at e)

    is_missed : misses n d g r X Y ≡ true → Missed n (entry d) (entry g) (entry r) X Y
    is_missed e =
        let a = both (ltb (entry d X Y) none) _ e in
        record { joined = ltb-true (entry d X Y) none a.0; none_reaches = λ w. not_reached w (not-true (among n way) a.1) }

  -- whether row X has such a pair
  abbrev in_row : ℕ → Bool
  in_row X = among n (misses n d g r X)

  pair_is : FirstPair n (Met n (entry d) (entry g) (entry r)) (Missed n (entry d) (entry g) (entry r)) (pair_of n (misses n d g r))
  pair_is = by_test (FirstPair n (Met n (entry d) (entry g) (entry r)) (Missed n (entry d) (entry g) (entry r))) (ltb (first n in_row) n) (Some (first n in_row, first n (misses n d g r (first n in_row)))) None some none
    where
      row : (X Y : ℕ) → X < first n in_row → Y < n → Met n (entry d) (entry g) (entry r) X Y
      row X Y l h = is_met X Y (none_among n (misses n d g r X) (none_before n in_row X l) Y h)

      some : ltb (first n in_row) n ≡ true → FirstPair n (Met n (entry d) (entry g) (entry r)) (Missed n (entry d) (entry g) (entry r)) (Some (first n in_row, first n (misses n d g r (first n in_row))))
      some e =
          let X = first n in_row in
          let Y = first n (misses n d g r X) in
          let l : X < n = ltb-true X n e in
          let m : Y < n = ltb-true Y n (first_so n in_row l) in
          the_pair l m row (λ Y' h. is_met X Y' (none_before n (misses n d g r X) Y' h)) (is_missed X Y (first_so n (misses n d g r X) m))

      none : ltb (first n in_row) n ≡ false → FirstPair n (Met n (entry d) (entry g) (entry r)) (Missed n (entry d) (entry g) (entry r)) None
      none e = no_pair (λ X Y h i. row X Y (omega (arith, ltb-false (first n in_row) n e)) i)

-- ---- one projection

module _ (n : ℕ) (less : n ≤ side) (es : List Arc) (small : Small n es) where
  inside : Inside (In es) n
  inside X Y u d m = let k = small X Y u d m in (k.0, k.1)

  -- the table of a part, closed
  module _ (b : Part) where
    in_part : Inside (PartOf b (In es)) n
    in_part X Y u d p = inside X Y u d p.edge

    start : Drawn (PartOf b (In es)) n (entry (rows_of n (at_once b es)))
    start = same_table in_part (entry_rows n (at_once b es)) (drawn b n es small)

    is_closed : Closed n (entry (rows_of n (at_once b es))) (not (has_cycle n (closed n b es))) (entry (closed n b es))
    is_closed = closes n less (entry (rows_of n (at_once b es))) start.within 0 n (rows_of n (at_once b es)) (omega arith) at_first_lem

    calm_part : has_cycle n (closed n b es) ≡ false → Distances (PartOf b (In es)) n (entry (closed n b es)) × Consistent (PartOf b (In es))
    calm_part e = distances (PartOf b (In es)) n in_part less (entry (rows_of n (at_once b es))) start (rw e at is_closed)

    cycle_part : has_cycle n (closed n b es) ≡ true → Cycle (In es)
    cycle_part e = part_cycle (cycle_of (PartOf b (In es)) n in_part less (entry (rows_of n (at_once b es))) start (rw e at is_closed))

    distances_part : Consistent (In es) → Distances (PartOf b (In es)) n (entry (closed n b es))
    distances_part c = go (has_cycle n (closed n b es)) refl
      where
        go : (z : Bool) → has_cycle n (closed n b es) ≡ z → Distances (PartOf b (In es)) n (entry (closed n b es))
        go true e = absurd (not_both (In es) c (cycle_part e))
        go false e = (calm_part e).0

  falls_part : Consistent (In es) → Distances (Negative (In es)) n (entry (closed n Falling es))
  falls_part c = same_distances (λ X Y u d e. record { edge = e.edge; below = ltb-true u d e.taken }) (λ X Y u d e. record { edge = e.edge; taken = lt-ltb u d e.below }) (distances_part Falling c)

  module _ (c : Consistent (In es)) (X Y : ℕ) (hx : X < n) (hy : Y < n) where
    fines : Met n (entry (closed n All es)) (entry (closed n Falling es)) (entry (closed n Rising es)) X Y → Fine (In es) X Y
    fines = fine (In es) n inside _ _ _ (all_edges (distances_part All c)) (falls_part c) (rising_edges (distances_part Rising c)) X Y hx hy

    bads : Missed n (entry (closed n All es)) (entry (closed n Falling es)) (entry (closed n Rising es)) X Y → Bad (In es) X Y
    bads = bad (In es) n inside _ _ _ (all_edges (distances_part All c)) (falls_part c) (rising_edges (distances_part Rising c)) X Y hx hy

  judged : (i : ℕ) → JudgedOf (In es) i (judge_of n i es)
  unfolding judge_of
  judged i =
      by_test (JudgedOf (In es) i) (has_cycle n (closed n All es)) (answer.Cycle i) (answer_of i (pair_of n (misses n (closed n All es) (closed n Falling es) (closed n Rising es))))
      (λ e. has_cycle_lem (cycle_part All e))
      (λ e. found (all_consistent (calm_part All e).1) _ (pair_is n (closed n All es) (closed n Falling es) (closed n Rising es)))
    where
      found : Consistent (In es) → (x : Option (ℕ × ℕ)) → FirstPair n (Met n (entry (closed n All es)) (entry (closed n Falling es)) (entry (closed n Rising es))) (Missed n (entry (closed n All es)) (entry (closed n Falling es)) (entry (closed n Rising es))) x → JudgedOf (In es) i (answer_of i x)
      found c None f = is_good (good_by (In es) n inside c _ _ (fines c) (bads c) f)
      found c (Some p) f = has_pair (pair_by (In es) n inside c _ _ (fines c) (bads c) f)

-- the same edges are judged the same
same_judged : {E F : ℕ → ℕ → ℕ → ℕ → Type 0} {i : ℕ} {a : Answer} → ((X Y u d : ℕ) → E X Y u d → F X Y u d) → ((X Y u d : ℕ) → F X Y u d → E X Y u d) → JudgedOf E i a → JudgedOf F i a
same_judged to from (is_good g) = is_good (same_good to from g)
same_judged to from (has_cycle_lem c) = has_cycle_lem (same_cycle to from c)
same_judged to from (has_pair p) = has_pair (same_bad to from p)

-- ---- the projections in order

goes_on_lem : {E : List ℕ → ℕ → ℕ → ℕ → ℕ → Type 0} {i : ℕ} {w : List ℕ} {ws : List (List ℕ)} {a : Answer} (on : ℕ → Answer) → JudgedOf (E w) i a → Found E (i + 1) ws (on (i + 1)) → Found E i (w ∷ ws) (onward a on)
goes_on_lem on (is_good g) f = good g f
goes_on_lem on (has_cycle_lem c) f = cycle c
goes_on_lem on (has_pair p) f = pair p

module _ (rs : List Record) (v : Valid [] rs) where
  -- no duration is too long
  lasting : Every (λ w. (C : ℕ) → by w C ≤ farthest) (projections (spans rs) unset)
  lasting =
      in_bounds_lem (λ C q. q ≤ farthest) (spans rs) unset (length-replicate {A = ℕ} most_points 0)
      (of_spans rs (λ i h k. let t = a_link_lem rs v i h k in record { place = omega (arith, t.to, few rs v); may = λ q low high. omega (arith, gap_up t.most, t.short) }))
      (λ w e k C. k C (nothing_lasts C))

  module _ (w : List ℕ) (lasts : (C : ℕ) → by w C ≤ farthest) where
    small : Small (points rs) (arcs rs w rs)
    small X Y u d m = small_given rs v w lasts X Y u d (in_given rs w X Y u d m)

    to_plan : (X Y u d : ℕ) → In (arcs rs w rs) X Y u d → edges_of rs w X Y u d
    to_plan X Y u d m = from_given rs v w X Y u d (in_given rs w X Y u d m)

    from_plan : (X Y u d : ℕ) → edges_of rs w X Y u d → In (arcs rs w rs) X Y u d
    from_plan X Y u d e = given_in rs w X Y u d (to_given rs v w X Y u d e)

    judged_plan : (i : ℕ) → JudgedOf (edges_of rs w) i (judge_of (points rs) i (arcs rs w rs))
    judged_plan i = same_judged to_plan from_plan (judged (points rs) (few rs v) (arcs rs w rs) small i)

    -- The distances computed over the plan's edges are its distances where no cycle sums below zero, and a cycle that is found is
    -- one of the plan's.
    pub plan_distances : has_cycle (points rs) (closed (points rs) All (arcs rs w rs)) ≡ false
        → Distances (edges_of rs w) (points rs) (entry (closed (points rs) All (arcs rs w rs))) × Consistent (edges_of rs w)
    plan_distances e =
        let c = calm_part (points rs) (few rs v) (arcs rs w rs) small All e in
        (same_distances to_plan from_plan (all_edges c.0), same_consistent to_plan from_plan (all_consistent c.1))

    pub plan_cycle : has_cycle (points rs) (closed (points rs) All (arcs rs w rs)) ≡ true → Cycle (edges_of rs w)
    plan_cycle e = same_cycle to_plan from_plan (cycle_part (points rs) (few rs v) (arcs rs w rs) small All e)

    -- No entry is past none.
    pub plan_capped : (X Y : ℕ) → X < points rs → Y < points rs → entry (closed (points rs) All (arcs rs w rs)) X Y ≤ none
    plan_capped = capped (points rs) All (arcs rs w rs)

  found : (i : ℕ) (ws : List (List ℕ)) → Every (λ w. (C : ℕ) → by w C ≤ farthest) ws → Found (edges_of rs) i ws (test_from rs i ws)
  unfolding test_from
  found i [] no_more = all_good
  found i (w ∷ ws) (also l ls) = goes_on_lem (λ j. test_from rs j ws) (judged_plan w l i) (found (i + 1) ws ls)

-- The test computed gives every plan an answer that the rules permit.
pub computed : (p : Plan) → Tested p (test_of p)
unfolding test_of
computed p =
    by_test (Tested p) (not (eqb (check_of p).number 0)) _ _
    (λ e. refused (eqb-false (check_of p).number 0 (not-true (eqb (check_of p).number 0) e)))
    (λ e. let ok = eqb-true (check_of p).number 0 (not-false (eqb (check_of p).number 0) e) in
    by_test (Tested p) (ltb most_projections (many (spans (records_of p)))) _ _
    (λ f. too_many ok (ltb-true most_projections (many (spans (records_of p))) f))
    (λ f. let v = (accepted_plan p ok).1 in
    tested ok (ltb-false most_projections (many (spans (records_of p))) f) (found (records_of p) v 0 (projections (spans (records_of p)) unset) (lasting (records_of p) v))))

-- So whatever answer the contract of `test` permits is that one.
pub test_is : {p : Plan} {a : Answer} → Tested p a → a ≡ test_of p
test_is {p} t = one_answer t (computed p)
