-- The search back from a way's end: each point that is reached goes on by a step that a shortest way can take, and where no edge leads to
-- one more, every point that is joined to the end is reached. Assumes nothing.
use mathlib.Core.Path.{◌≡◌, refl, sym, ◌∙◌}
use mathlib.Core.Bool.{Bool, true, false, not, ◌&&◌}
use mathlib.Core.List.{List, [], ◌∷◌}
use Prim.Native.Nat.{ℕ, zero, suc, ◌+◌, ◌*◌, ◌/◌, ◌<◌, ◌≤◌}
use native.Mathlib.Omega.{arith}
use native.Mathlib.Decide.{ℕ_discrete, dec_lt}
use lib.Dec.{eqb, ltb}
use lib.ListN.{length, get_or, set, replicate, length-set, length-replicate, get_or-replicate, get_or-eq_default}
use lib.Seq.{get_or-set_same, get_or-set_other}
use borrow.Author.Tests.{eqb-true, eq-eqb, ne_eqb, ltb-true, lt-ltb}
use Rattle.plan.specs.APlan.{one}
use Rattle.plan.specs.Limits.{most_records}
use Rattle.network.specs.Walks.{Walk, nil, step}
use Rattle.tables.specs.Tables.{bias, none, side}
use Rattle.tables.specs.Entries.{raw, at}
use Rattle.tables.specs.Distances.{Distances}
use Rattle.tables.proofs.Widths.{wide_in, finite, wide_there}
use Rattle.rows.specs.Sheet.{SheetEdge, kind_at, over_at}
use Rattle.projection.proofs.Judges.{all_edges}
use Rattle.ways.specs.declared.steps.Step.{Step}
use Rattle.ways.specs.Steps.{no_step, no_steps, step_at, is_edge, StepIn}
use Rattle.ways.specs.Toward.{ExtendAsks, takes_by, TakeAsks, SearchAsks, Searched, ReachAsks, Onward, Ordered, Reached}
use Rattle.ways.proofs.Laws.{step_fits, Numbered, numbered, laid_fits}

-- ---- what an edge that is taken does

module _ (s w t o : List ℕ) (y k : ℕ) where
  abbrev e : Step
  e = step_at s w k

  pub record Takes : Type 0 where
    pub some : is_edge (kind_at s (k / 2)) ≡ true
    pub free : get_or o (step_at s w k).from 0 ≡ 0
    pub bound : 0 < get_or o (step_at s w k).to 0
    pub tight : raw t (step_at s w k).from y + (step_at s w k).down ≡ raw t (step_at s w k).to y + (step_at s w k).up

  four : (a b c d : Bool) → a && (b && (c && d)) ≡ true → (a ≡ true) × (b ≡ true) × (c ≡ true) × (d ≡ true)
  four true true true true h = (refl, refl, refl, refl)
  four true true true false h = absurd (let z : ◌≡◌ {A = ℕ} 0 1 = cc in omega arith)
  four true true false d h = absurd (let z : ◌≡◌ {A = ℕ} 0 1 = cc in omega arith)
  four true false c d h = absurd (let z : ◌≡◌ {A = ℕ} 0 1 = cc in omega arith)
  four false b c d h = absurd (let z : ◌≡◌ {A = ℕ} 0 1 = cc in omega arith)

  pub takes_so : takes_by s w t o y k ≡ true → Takes
  takes_so h =
      let f = four (is_edge (kind_at s (k / 2))) (eqb (get_or o (step_at s w k).from 0) 0) (ltb 0 (get_or o (step_at s w k).to 0)) (eqb (raw t (step_at s w k).from y + (step_at s w k).down) (raw t (step_at s w k).to y + (step_at s w k).up)) h in
      record {
        some = f.0;
        free = eqb-true (get_or o (step_at s w k).from 0) 0 f.1;
        bound = ltb-true 0 (get_or o (step_at s w k).to 0) f.2;
        tight = eqb-true (raw t (step_at s w k).from y + (step_at s w k).down) (raw t (step_at s w k).to y + (step_at s w k).up) f.3;
      }

  -- an edge that is not taken does not
  pub takes_not : takes_by s w t o y k ≡ false → Takes → ⊥
  takes_not h g =
      let z : true ≡ false = rw (g.some, eq-eqb (get_or o (step_at s w k).from 0) 0 g.free, lt-ltb 0 (get_or o (step_at s w k).to 0) g.bound, eq-eqb (raw t (step_at s w k).from y + (step_at s w k).down) (raw t (step_at s w k).to y + (step_at s w k).up) g.tight) at h in
      let y : ◌≡◌ {A = ℕ} 0 1 = cc in
      omega arith

-- ---- how many are not reached

unfoldable pub zeros : List ℕ → ℕ
zeros [] = 0
zeros (a ∷ o) = one (eqb a 0) + zeros o

zeros_set : (o : List ℕ) (X v : ℕ) → X < length o → get_or o X 0 ≡ 0 → zeros (set o X (suc v)) + 1 ≡ zeros o
unfolding zeros
zeros_set [] X v h z = absurd (omega arith)
zeros_set (a ∷ o) zero v h z = rw (z, ne_eqb (suc v) 0 (λ e. omega arith)) (omega arith)
zeros_set (a ∷ o) (suc X) v h z = omega (arith, zeros_set o X v (omega arith) z)

-- nothing is reached
abbrev pub unreached : List ℕ
unreached = replicate side 0

-- a number in place of another
module _ (o : List ℕ) (f v X : ℕ) (h : f < length o) where
  pub set_cases : ((X ≡ f) → get_or (set o f v) X 0 ≡ v) × ((X ≡ f → ⊥) → get_or (set o f v) X 0 ≡ get_or o X 0)
  set_cases = ((λ e. rw e (get_or-set_same o f v 0 h)), (λ n. get_or-set_other o f X v 0 n))

-- ---- the search, round by round

pub record Reaching (s w : List ℕ) (m n : ℕ) (t : List ℕ) (y : ℕ) (o : List ℕ) (next : List Step) (count k : ℕ) : Type 0 where
  pub asks : ReachAsks s w m n t y
  pub ordered : Ordered s w m t y o next
  pub most : (X : ℕ) → get_or o X 0 ≤ count
  pub room : count + zeros o ≡ side
  pub found : Searched s w m t o y k

module _ {s w : List ℕ} {m n : ℕ} {t : List ℕ} {y : ℕ} (a : ReachAsks s w m n t y) where
  pub reach_search : SearchAsks s w m y
  reach_search = record { n = n; ready = a.ready; end = omega (arith, a.end, a.ready.few) }

  here : y < length unreached
  here = omega (arith, length-replicate {A = ℕ} side 0, a.end, a.ready.few)

  nothing : (X : ℕ) → get_or unreached X 0 ≡ 0
  nothing X = elim (dec_lt X side) [
    | yes h ↦ get_or-replicate {A = ℕ} side X 0 0 h
    | no h ↦ get_or-eq_default {A = ℕ} unreached 0 {n = X} (omega (arith, length-replicate {A = ℕ} side 0))
  ]

  all_zeros : zeros unreached ≡ side
  unfolding zeros
  all_zeros = refl

  one_there : (X : ℕ) → get_or (set unreached y 1) X 0 ≤ 1
  one_there X = elim (ℕ_discrete X y) [
    | yes e ↦ omega (arith, (set_cases unreached y 1 X here).0 e)
    | no e ↦ omega (arith, (set_cases unreached y 1 X here).1 e, nothing X)
  ]

  pub reaching_none : {o : List ℕ} {next : List Step} {k : ℕ} → o ≡ set unreached y 1 → next ≡ no_steps → Searched s w m t o y k → Reaching s w m n t y o next 1 k
  reaching_none {o} {next} eo en f =
      record {
        asks = a;
        ordered = record {
          linked = record {
            long = rw eo (length-set unreached y 1 ∙ length-replicate {A = ℕ} side 0);
            wide = rw en (length-replicate {A = Step} side no_step);
            most = λ X. omega (arith, low X);
            to = λ X h. absurd (omega (arith, low X));
            some = λ X h. absurd (omega (arith, low X));
            before = λ X h. absurd (omega (arith, low X));
          };
          first = rw eo ((set_cases unreached y 1 y here).0 refl);
          only = only;
          each = λ X h. absurd (omega (arith, low X));
        };
        most = low;
        room = rw eo (omega (arith, zeros_set unreached y 0 here (nothing y), all_zeros));
        found = f;
      }
    where
      low : (X : ℕ) → get_or o X 0 ≤ 1
      low X = rw eo (one_there X)

      only : (X : ℕ) → get_or o X 0 ≡ 1 → X ≡ y
      only X h = elim (ℕ_discrete X y) [
        | yes e ↦ e
        | no e ↦ absurd (omega (arith, rw eo at h, (set_cases unreached y 1 X here).1 e, nothing X))
      ]

module _ {s w : List ℕ} {m n : ℕ} {t : List ℕ} {y : ℕ} {o : List ℕ} {next : List Step} {count k : ℕ} (r : Reaching s w m n t y o next count k) where
  abbrev it : Step
  it = step_at s w k

  module _ (l : k < 2 * m) where
    below : k / 2 < m
    below = omega arith

    takes : Takes s w t o y k
    takes = takes_so s w t o y k (r.found.here l)

    laid : StepIn s w m (step_at s w k)
    laid = step_fits r.asks.ready k below takes.some

    inside : ((step_at s w k).from < n) × ((step_at s w k).to < n)
    inside = let h = laid_fits r.asks.ready laid.below laid.edge in (h.0, h.1)

    -- what is asked where a step is read
    pub turn_there : (k / 2 < m) × ((step_at s w k).from < side)
    turn_there = (below, omega (arith, inside, r.asks.ready.few))

    pub turn_asks : (k / 2 < most_records) × (over_at s (k / 2) < side)
    turn_asks = (omega (arith, below, r.asks.ready.rows), r.asks.ready.over (k / 2) below)

    -- there is room for one more
    pub turn_room : count + 1 ≤ side
    turn_room = omega (arith, r.room, zeros_set o (step_at s w k).from 0 (omega (arith, r.ordered.linked.long, turn_there)) takes.free)

    from_in : (step_at s w k).from < length o
    from_in = omega (arith, r.ordered.linked.long, turn_there)

    from_wide : (step_at s w k).from < length next
    from_wide = omega (arith, r.ordered.linked.wide, turn_there)

    new : List ℕ
    new = set o (step_at s w k).from (count + 1)

    at_it : get_or (set o (step_at s w k).from (count + 1)) (step_at s w k).from 0 ≡ count + 1
    at_it = get_or-set_same o (step_at s w k).from (count + 1) 0 from_in

    at_other : (X : ℕ) → (X ≡ (step_at s w k).from → ⊥) → get_or (set o (step_at s w k).from (count + 1)) X 0 ≡ get_or o X 0
    at_other X h = get_or-set_other o (step_at s w k).from X (count + 1) 0 h

    -- a point that was reached is not that one
    not_it : (X : ℕ) → 0 < get_or o X 0 → X ≡ (step_at s w k).from → ⊥
    not_it X h e = omega (arith, takes.free, rw e at h)

    kept_at : (X : ℕ) → 0 < get_or o X 0 → get_or (set o (step_at s w k).from (count + 1)) X 0 ≡ get_or o X 0
    kept_at X h = at_other X (not_it X h)

    low : (X : ℕ) → get_or (set o (step_at s w k).from (count + 1)) X 0 ≤ count + 1
    low X = elim (ℕ_discrete X (step_at s w k).from) [
      | yes e ↦ rw e (omega (arith, at_it))
      | no e ↦ omega (arith, at_other X e, r.most X)
    ]

    -- what holds of the step that goes on from each point
    record Goes (X : ℕ) : Type 0 where
      to : (get_or (set next (step_at s w k).from (step_at s w k)) X no_step).to < side
      some : 0 < get_or (set o (step_at s w k).from (count + 1)) (get_or (set next (step_at s w k).from (step_at s w k)) X no_step).to 0
      before : get_or (set o (step_at s w k).from (count + 1)) (get_or (set next (step_at s w k).from (step_at s w k)) X no_step).to 0 < get_or (set o (step_at s w k).from (count + 1)) X 0
      onward : Onward s w m t y X (get_or (set next (step_at s w k).from (step_at s w k)) X no_step)

    goes : (X : ℕ) → 1 < get_or (set o (step_at s w k).from (count + 1)) X 0 → Goes X
    goes X h = elim (ℕ_discrete X (step_at s w k).from) [
      | yes e ↦ the_new e
      | no e ↦ an_old e
    ]
      where
        the_new : X ≡ (step_at s w k).from → Goes X
        the_new e =
            let g : get_or (set next (step_at s w k).from (step_at s w k)) X no_step ≡ step_at s w k = rw e (get_or-set_same next (step_at s w k).from (step_at s w k) no_step from_wide) in
            let b = kept_at (step_at s w k).to takes.bound in
            record {
              to = rw g (omega (arith, inside, r.asks.ready.few));
              some = rw g (omega (arith, b, takes.bound));
              before = rw (g, e) (omega (arith, b, at_it, r.most (step_at s w k).to));
              onward = rw g (record { step = laid; from = e; tight = rw e takes.tight });
            }

        an_old : (X ≡ (step_at s w k).from → ⊥) → Goes X
        an_old n =
            let g : get_or (set next (step_at s w k).from (step_at s w k)) X no_step ≡ get_or next X no_step = get_or-set_other next (step_at s w k).from X (step_at s w k) no_step n in
            let old : 1 < get_or o X 0 = omega (arith, at_other X n) in
            let b = kept_at (get_or next X no_step).to (r.ordered.linked.some X old) in
            record {
              to = rw g (r.ordered.linked.to X old);
              some = rw g (omega (arith, b, r.ordered.linked.some X old));
              before = rw g (omega (arith, b, at_other X n, r.ordered.linked.before X old));
              onward = rw g (r.ordered.each X old);
            }

    pub reaching_more : {e : Step} {o' : List ℕ} {next' : List Step} {count' k' : ℕ} → e ≡ step_at s w k → count' ≡ count + 1 → o' ≡ set o e.from count' → next' ≡ set next e.from e
        → Searched s w m t o' y k' → Reaching s w m n t y o' next' count' k'
    reaching_more {e} {o'} {next'} {count'} {k'} ee ec eo en f =
        rw (en, ee, ec)
        (record {
          asks = r.asks;
          ordered = record {
            linked = record {
              long = rw is (length-set o (step_at s w k).from (count + 1) ∙ r.ordered.linked.long);
              wide = length-set next (step_at s w k).from (step_at s w k) ∙ r.ordered.linked.wide;
              most = λ X. rw is (omega (arith, low X, turn_room));
              to = λ X h. (goes X (rw is at h)).to;
              some = λ X h. rw is (goes X (rw is at h)).some;
              before = λ X h. rw is (goes X (rw is at h)).before;
            };
            first = rw is (kept_at y (omega (arith, r.ordered.first)) ∙ r.ordered.first);
            only = only;
            each = λ X h. (goes X (rw is at h)).onward;
          };
          most = λ X. rw is (low X);
          room = rw is (omega (arith, r.room, zeros_more));
          found = f;
        })
      where
        is : o' ≡ set o (step_at s w k).from (count + 1)
        is = rw (ee, ec) at eo

        zeros_more : zeros (set o (step_at s w k).from (count + 1)) + 1 ≡ zeros o
        zeros_more = let z : count + 1 ≡ suc count = omega arith in rw z (zeros_set o (step_at s w k).from count from_in takes.free)

        only : (X : ℕ) → get_or o' X 0 ≡ 1 → X ≡ y
        only X h = elim (ℕ_discrete X (step_at s w k).from) [
          | yes q ↦ absurd (omega (arith, rw (is, q) at h, at_it, r.most y, r.ordered.first))
          | no q ↦ r.ordered.only X (sym (at_other X q) ∙ rw is at h)
        ]

  -- ---- where nothing more is found, all are reached
  module _ (l : 2 * m ≤ k) where
    D : Distances (SheetEdge s w m) n (at t)
    D = all_edges r.asks.filled.verdict.0

    reached : {X Z u d : ℕ} → Walk (SheetEdge s w m) X Z u d → Z ≡ y → X < n → at t X y + d ≡ bias + u → 0 < get_or o X 0
    reached nil z h v = rw z (omega (arith, r.ordered.first))
    reached {X} (step {Z = M} {u = u} {d = d} {u' = u'} {d' = d'} e rest) z h v =
        let f = laid_fits r.asks.ready e.below e.edge in
        let a = D.least M y u' d' f.1 (rw z at rest) in
        let b = D.real M y f.1 r.asks.end a.0 in
        let g = D.least X y (u + b.up) (d + b.down) h (step e b.walk) in
        let on = reached rest z f.1 (omega (arith, a.1, b.weight, g.1)) in
        go on (omega (arith, a.1, b.weight, g.1)) a.0 g.0 (numbered s w e.row e.edge)
      where
        go : 0 < get_or o M 0 → at t X y + d ≡ at t M y + u → at t M y < none → at t X y < none → Numbered s w e.row X M u d → 0 < get_or o X 0
        go on tight hm hx q = elim (ℕ_discrete (get_or o X 0) 0) [
          | no i ↦ omega arith
          | yes i ↦
              let x = wide_in (raw t X y) (finite (raw t X y) hx) in
              let c = wide_in (raw t M y) (finite (raw t M y) hm) in
              absurd (takes_not s w t o y q.k (r.found.none l q.k (omega (arith, q.row, e.below)))
              (record { some = rw q.row q.some; free = rw q.is i; bound = rw q.is on; tight = rw q.is (omega (arith, x, c)) }))
        ]

    pub reached_all : Reached s w m n t y o next
    reached_all = record {
      ordered = r.ordered;
      all = λ X h v. let b = D.real X y h r.asks.end (wide_there (raw t X y) v) in reached b.walk refl h b.weight;
    }

-- ---- one edge, and all of them in order

pub edge_not : (b : Bool) {a : Bool} (x : Bool) → b ≡ a → not b ≡ true → false ≡ a && x
edge_not true x e h = absurd (let z : ◌≡◌ {A = ℕ} 0 1 = cc in omega arith)
edge_not false x e h = rw (← e) refl

pub edge_so : (b : Bool) {a x r : Bool} → b ≡ a → not b ≡ false → r ≡ x → r ≡ a && x
edge_so true e h q = rw (← e) q
edge_so false e h q = absurd (let z : ◌≡◌ {A = ℕ} 0 1 = cc in omega arith)

pub is_so : (b : Bool) {a : Bool} → b ≡ a → not b ≡ false → a ≡ true
is_so true e h = sym e
is_so false e h = absurd (let z : ◌≡◌ {A = ℕ} 0 1 = cc in omega arith)

module _ {s w : List ℕ} {k y : ℕ} (a : TakeAsks s w k y) where
  pub take_there : (k / 2 < most_records) × (over_at s (k / 2) < side)
  take_there = (omega (arith, a.below, a.ready.rows), a.ready.over (k / 2) a.below)

  pub take_asks : (b : Bool) → b ≡ is_edge (kind_at s (k / 2)) → not b ≡ false → {e : Step} → e ≡ step_at s w k → ExtendAsks e y
  take_asks b h n e =
      let i = step_fits a.ready k a.below (is_so b h n) in
      let f = laid_fits a.ready i.below i.edge in
      rw e (record { from = omega (arith, f.0, a.ready.few); to = omega (arith, f.1, a.ready.few); end = a.end; up = f.2; down = f.3 })

pub record Searching (s w : List ℕ) (m : ℕ) (t o : List ℕ) (y end k : ℕ) : Type 0 where
  pub asks : SearchAsks s w m y
  pub whole : end ≡ 2 * m
  pub within : k ≤ 2 * m
  pub none : (j : ℕ) → j < k → takes_by s w t o y j ≡ false

pub searching_none : {s w : List ℕ} {m y : ℕ} (t o : List ℕ) → SearchAsks s w m y → Searching s w m t o y (2 * m) 0
searching_none t o a = record { asks = a; whole = refl; within = omega arith; none = λ j h. absurd (omega arith) }

module _ {s w : List ℕ} {m : ℕ} {t o : List ℕ} {y end k : ℕ} (f : Searching s w m t o y end k) where
  pub searching_all : end ≤ k → Searched s w m t o y end
  searching_all h = record { here = λ l. absurd (omega (arith, f.whole)); none = λ l j i. f.none j (omega (arith, f.whole)) }

  module _ (l : k < end) where
    pub searching_asks : TakeAsks s w k y
    searching_asks = record { m = m; n = f.asks.n; ready = f.asks.ready; below = omega (arith, f.whole); end = f.asks.end }

    module _ (b : Bool) (e : b ≡ takes_by s w t o y k) where
      pub searching_here : b ≡ true → Searched s w m t o y k
      searching_here h = record { here = λ _. sym e ∙ h; none = λ i j _. absurd (omega (arith, f.whole)) }

      pub searching_more : b ≡ false → Searching s w m t o y end (k + 1)
      searching_more h = record { asks = f.asks; whole = f.whole; within = omega (arith, f.whole); none = on }
        where
          on : (j : ℕ) → j < k + 1 → takes_by s w t o y j ≡ false
          on j i = elim (ℕ_discrete j k) [
            | yes q ↦ rw q (sym e ∙ h)
            | no q ↦ f.none j (omega arith)
          ]
