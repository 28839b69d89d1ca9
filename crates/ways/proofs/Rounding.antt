-- A cycle of negative sum, found by its last edge: edges that have none still have none with an edge more that closes none. Assumes nothing.
use mathlib.Core.Path.{◌≡◌, refl, sym, ap, subst, ◌∙◌}
use mathlib.Core.Bool.{Bool, true, false, not, ◌&&◌}
use mathlib.Core.List.{List, [], ◌∷◌, ◌++◌}
use Prim.Native.Nat.{ℕ, min, ◌+◌, ◌*◌, ◌/◌, ◌%◌, ◌<◌, ◌≤◌}
use native.Mathlib.Omega.{arith}
use native.Mathlib.Decide.{ℕ_discrete, dec_lt}
use lib.Dec.{ltb}
use lib.ListN.{length, length-append}
use borrow.Author.Tests.{ltb-true, lt-ltb}
use Rattle.plan.specs.Limits.{most_records}
use Rattle.network.specs.Walks.{Walk, nil, step}
use Rattle.network.specs.Passing.{Consistent}
use Rattle.network.proofs.Laws.{append, over, not_both}
use Rattle.tables.specs.declared.table.Part.TheVariants.{All as Every}
use Rattle.tables.specs.Tables.{bias, none, side}
use Rattle.tables.specs.Entries.{raw, at, middle, nowhere}
use Rattle.tables.proofs.Widths.{wide_in, finite}
use Rattle.tables.proofs.Offers.{Plus, old, new}
use Rattle.rows.specs.Sheet.{by, SheetEdge, SheetReady, Laid, ordinary, there, back, wait, kind_at, from_at, to_at, first_at, second_at, over_at}
use Rattle.rows.specs.Filled.{Filled}
use Rattle.projection.proofs.Judges.{all_edges, part_cycle}
use Rattle.ways.specs.declared.steps.Step.{Step}
use Rattle.ways.specs.declared.steps.Way.{Way}
use Rattle.ways.specs.Steps.{no_step, way_as, with_step, step_at, is_edge, StepIn}
use Rattle.ways.specs.Toward.{ExtendAsks, WayAsks, WayOf}
use Rattle.ways.specs.Round.{closes_by, Open, ClosingAsks, FinishAsks, Closing, RoundAsks, RoundOf}
use Rattle.ways.proofs.Laws.{step_as, kinds, step_fits, at_ordinary, at_wait, at_there, at_back, laid_fits, leads_more, ups_more, downs_more, all_more, all_over}
use Rattle.ways.proofs.Following.{stored}

-- ---- an edge more

module _ (E : ℕ → ℕ → ℕ → ℕ → Type 0) (c : Consistent E) (i j v z : ℕ) (shut : (u d : ℕ) → Walk E j i u d → z + d ≤ v + u) where
  -- a walk goes by the new edge, or not; it need not go by it twice
  pub data Thru (X Y u d : ℕ) : Type 0 where
    direct : {u' d' : ℕ} → Walk E X Y u' d' → u' + d ≤ u + d' → Thru X Y u d
    through : {u₁ d₁ u₂ d₂ : ℕ} → Walk E X i u₁ d₁ → Walk E j Y u₂ d₂ → u₁ + v + u₂ + d ≤ u + (d₁ + z + d₂) → Thru X Y u d

  pub thru : {X Y u d : ℕ} → Walk (Plus E i j v z) X Y u d → Thru X Y u d
  thru nil = direct nil (omega arith)
  thru (step (old e) w) = by_old e (thru w)
    where
      by_old : {X Z Y u d u' d' : ℕ} → E X Z u d → Thru Z Y u' d' → Thru X Y (u + u') (d + d')
      by_old e (direct w h) = direct (step e w) (omega arith)
      by_old e (through a b h) = through (step e a) b (omega arith)
  thru (step (new a b f g) w) = by_new a b f g (thru w)
    where
      by_new : {X Z Y u d u' d' : ℕ} → X ≡ i → Z ≡ j → u ≡ v → d ≡ z → Thru Z Y u' d' → Thru X Y (u + u') (d + d')
      by_new a b f g (direct w h) = rw a (through nil (rw b at w) (omega arith))
      by_new a b f g (through p q h) = let s = shut _ _ (rw b at p) in rw a (through nil q (omega arith))

  pub round_plus : Consistent (Plus E i j v z)
  round_plus = record { round = λ w. go (thru w) }
    where
      go : {X u d : ℕ} → Thru X X u d → d ≤ u
      go (direct w h) = omega (arith, c.round w)
      go (through a b h) = omega (arith, shut _ _ (append E b a))

  -- the edge back, of the same length below zero
  pub shut_back : z ≡ 0 → ((u d : ℕ) → Walk E i j u d → v + d ≤ 0 + u) → (u d : ℕ) → Walk (Plus E i j v z) i j u d → v + d ≤ 0 + u
  shut_back e home u d w = go (thru w)
    where
      go : Thru i j u d → v + d ≤ 0 + u
      go (direct w h) = omega (arith, home _ _ w)
      go (through a b h) = omega (arith, c.round a, c.round b)

-- ---- a row more

module _ {E F : ℕ → ℕ → ℕ → ℕ → Type 0} where
  fewer : Consistent F → ((X Y u d : ℕ) → E X Y u d → F X Y u d) → Consistent E
  fewer c f = record { round = λ w. c.round (over f w) }

module _ (s w : List ℕ) (q : ℕ) (c : Consistent (SheetEdge s w q)) where
  abbrev E : ℕ → ℕ → ℕ → ℕ → Type 0
  E = SheetEdge s w q

  abbrev p : ℕ
  p = by w (over_at s q)

  -- an edge of the rows up to q is one before, or of row q
  split : {F : ℕ → ℕ → ℕ → ℕ → Type 0} → ((X Y u d : ℕ) → SheetEdge s w q X Y u d → F X Y u d) → ((X Y u d : ℕ) → Laid s w q X Y u d → F X Y u d)
      → (X Y u d : ℕ) → SheetEdge s w (q + 1) X Y u d → F X Y u d
  split was is X Y u d e = elim (ℕ_discrete e.row q) [
    | yes h ↦ is X Y u d (rw h at e.edge)
    | no h ↦ was X Y u d (record { row = e.row; below = omega (arith, e.below); edge = e.edge })
  ]

  module _ (first : Open (SheetEdge s w q) (step_at s w (2 * q))) where
    of_ordinary : kind_at s q ≡ 3 → Consistent (SheetEdge s w (q + 1))
    of_ordinary k =
        fewer
        (round_plus (SheetEdge s w q) c (from_at s q) (to_at s q) (first_at s q) (second_at s q) (λ u d v. let o : Open (SheetEdge s w q) (step_as q (from_at s q) (to_at s q) (first_at s q) (second_at s q)) = rw (at_ordinary s w q k) at first in o.round v))
        (split (λ X Y u d e. old e) (λ X Y u d e. go e))
      where
        go : {X Y u d : ℕ} → Laid s w q X Y u d → Plus (SheetEdge s w q) (from_at s q) (to_at s q) (first_at s q) (second_at s q) X Y u d
        go (ordinary _ a b f g) = new a b f g
        go (there h _ _ _ _) = absurd (omega arith)
        go (back h _ _ _ _) = absurd (omega arith)
        go (wait h _ _ _ _) = absurd (omega arith)

    of_wait : kind_at s q ≡ 4 → Consistent (SheetEdge s w (q + 1))
    of_wait k =
        fewer
        (round_plus (SheetEdge s w q) c (from_at s q) (to_at s q) 0 (min (first_at s q) (by w (over_at s q))) (λ u d v. let o : Open (SheetEdge s w q) (step_as q (from_at s q) (to_at s q) 0 (min (first_at s q) (by w (over_at s q)))) = rw (at_wait s w q k) at first in o.round v))
        (split (λ X Y u d e. old e) (λ X Y u d e. go e))
      where
        go : {X Y u d : ℕ} → Laid s w q X Y u d → Plus (SheetEdge s w q) (from_at s q) (to_at s q) 0 (min (first_at s q) (by w (over_at s q))) X Y u d
        go (wait _ a b f g) = new a b f g
        go (there h _ _ _ _) = absurd (omega arith)
        go (back h _ _ _ _) = absurd (omega arith)
        go (ordinary h _ _ _ _) = absurd (omega arith)

    of_link : Open (SheetEdge s w q) (step_at s w (2 * q + 1)) → kind_at s q ≡ 2 → Consistent (SheetEdge s w (q + 1))
    of_link second k =
        let o : Open (SheetEdge s w q) (step_as q (from_at s q) (to_at s q) (by w (over_at s q)) 0) = rw (at_there s w q k) at first in
        let r : Open (SheetEdge s w q) (step_as q (to_at s q) (from_at s q) 0 (by w (over_at s q))) = rw (at_back s w q k) at second in
        let c₁ = round_plus (SheetEdge s w q) c (from_at s q) (to_at s q) (by w (over_at s q)) 0 (λ u d v. o.round v) in
        fewer
        (round_plus (Plus (SheetEdge s w q) (from_at s q) (to_at s q) (by w (over_at s q)) 0) c₁ (to_at s q) (from_at s q) 0 (by w (over_at s q))
        (shut_back (SheetEdge s w q) c (from_at s q) (to_at s q) (by w (over_at s q)) 0 (λ u d v. o.round v) refl (λ u d v. r.round v)))
        (split (λ X Y u d e. old (old e)) (λ X Y u d e. go e))
      where
        go : {X Y u d : ℕ} → Laid s w q X Y u d → Plus (Plus (SheetEdge s w q) (from_at s q) (to_at s q) (by w (over_at s q)) 0) (to_at s q) (from_at s q) 0 (by w (over_at s q)) X Y u d
        go (there _ a b f g) = old (new a b f g)
        go (back _ a b f g) = new a b f g
        go (wait h _ _ _ _) = absurd (omega arith)
        go (ordinary h _ _ _ _) = absurd (omega arith)

  of_nothing : is_edge (kind_at s q) ≡ false → Consistent (SheetEdge s w (q + 1))
  of_nothing n = fewer c (split (λ X Y u d e. e) (λ X Y u d e. go e))
    where
      clash : is_edge (kind_at s q) ≡ true → ⊥
      clash h = let z : true ≡ false = sym h ∙ n in let y : ◌≡◌ {A = ℕ} 0 1 = cc in omega arith

      go : {X Y u d : ℕ} → Laid s w q X Y u d → SheetEdge s w q X Y u d
      go (ordinary k _ _ _ _) = absurd (clash (rw k refl))
      go (there k _ _ _ _) = absurd (clash (rw k refl))
      go (back k _ _ _ _) = absurd (clash (rw k refl))
      go (wait k _ _ _ _) = absurd (clash (rw k refl))

  pub row_more : (is_edge (kind_at s q) ≡ true → Open (SheetEdge s w q) (step_at s w (2 * q))) → (is_edge (kind_at s q) ≡ true → Open (SheetEdge s w q) (step_at s w (2 * q + 1))) → Consistent (SheetEdge s w (q + 1))
  row_more first second = go (is_edge (kind_at s q)) refl
    where
      go : (b : Bool) → is_edge (kind_at s q) ≡ b → Consistent (SheetEdge s w (q + 1))
      go false n = of_nothing n
      go true y =
          let k = kinds (kind_at s q) y in
          elim (ℕ_discrete (kind_at s q) 3) [
            | yes h ↦ of_ordinary (first y) h
            | no h ↦ elim (ℕ_discrete (kind_at s q) 4) [
              | yes g ↦ of_wait (first y) g
              | no g ↦ of_link (first y) (second y) (omega arith)
            ]
          ]

-- ---- one edge, as the code asks it

-- the first rows of a sheet
fewer_rows : {s w : List ℕ} {m n q : ℕ} → q ≤ m → SheetReady s w m n → SheetReady s w q n
fewer_rows h o = record {
  wide = o.wide;
  rows = omega (arith, o.rows);
  few = o.few;
  from = λ i l. o.from i (omega arith);
  to = λ i l. o.to i (omega arith);
  over = λ i l. o.over i (omega arith);
  first = λ i l. o.first i (omega arith);
  second = λ i l. o.second i (omega arith);
  durations = o.durations;
}

and_true : (a b : Bool) → a && b ≡ true → (a ≡ true) × (b ≡ true)
and_true true true h = (refl, refl)
and_true true false h = absurd (let z : ◌≡◌ {A = ℕ} 0 1 = cc in omega arith)
and_true false b h = absurd (let z : ◌≡◌ {A = ℕ} 0 1 = cc in omega arith)

module _ {s w : List ℕ} {n k : ℕ} (a : ClosingAsks s w n k) where
  pub closing_there : (k / 2 < most_records) × (over_at s (k / 2) < side)
  closing_there = (omega (arith, a.below, a.ready.rows), a.ready.over (k / 2) a.below)

  pub closing_ready : SheetReady s w (k / 2) n
  closing_ready = fewer_rows (omega (arith, a.below)) a.ready

  module _ (some : is_edge (kind_at s (k / 2)) ≡ true) where
    within : ((step_at s w k).from < n) × ((step_at s w k).to < n)
    within = let i = step_fits a.ready k a.below some in let f = laid_fits a.ready i.below i.edge in (f.0, f.1)

    pub closing_asks : {e : Step} → e ≡ step_at s w k → ExtendAsks e 0
    closing_asks e =
        let i = step_fits a.ready k a.below some in
        let f = laid_fits a.ready i.below i.edge in
        rw e (record { from = omega (arith, f.0, a.ready.few); to = omega (arith, f.1, a.ready.few); end = omega arith; up = f.2; down = f.3 })

    module _ {t : List ℕ} where
      whole : (r : Bool) → Filled Every s w (k / 2) n t r → Filled Every s w (k / 2) n t true
      whole true f = f
      whole false f = absurd (not_both (SheetEdge s w (k / 2)) a.consistent (part_cycle f.verdict))

      still_open : Filled Every s w (k / 2) n t true → closes_by t (step_at s w k) ≡ false → Open (SheetEdge s w (k / 2)) (step_at s w k)
      still_open f h = record { round = λ {u} {d} v. go u d ((all_edges f.verdict.0).least (step_at s w k).to (step_at s w k).from u d within.1 v) }
        where
          v : ℕ
          v = raw t (step_at s w k).to (step_at s w k).from

          go : (u d : ℕ) → (at t (step_at s w k).to (step_at s w k).from < none) × (at t (step_at s w k).to (step_at s w k).from + d ≤ bias + u) → (step_at s w k).down + d ≤ (step_at s w k).up + u
          go u d l = elim (dec_lt (raw t (step_at s w k).to (step_at s w k).from + (step_at s w k).up) (middle + (step_at s w k).down)) [
            | no i ↦ omega (arith, wide_in (raw t (step_at s w k).to (step_at s w k).from) (finite (raw t (step_at s w k).to (step_at s w k).from) l.0), l.1)
            | yes i ↦
                let z : true ≡ false = rw (lt-ltb (raw t (step_at s w k).to (step_at s w k).from) nowhere (finite (raw t (step_at s w k).to (step_at s w k).from) l.0), lt-ltb (raw t (step_at s w k).to (step_at s w k).from + (step_at s w k).up) (middle + (step_at s w k).down) i) at h in
                absurd (let y : ◌≡◌ {A = ℕ} 0 1 = cc in omega arith)
          ]

      pub closing_so : {b : Bool} → Filled Every s w (k / 2) n t b → {e : Step} → e ≡ step_at s w k → (r : Bool) → r ≡ closes_by t e → Closing s w n k t r
      closing_so {b} f ee r er =
          let g = whole b f in
          let q : r ≡ closes_by t (step_at s w k) = rw ee at er in
          record {
            closed = λ h. record { asks = a; some = some; filled = g; closes = sym q ∙ h };
            still = λ h _. still_open g (sym q ∙ h);
          }

  pub closing_not : {t : List ℕ} (b : Bool) → b ≡ is_edge (kind_at s (k / 2)) → not b ≡ true → Closing s w n k t false
  closing_not true e h = absurd (let z : ◌≡◌ {A = ℕ} 0 1 = cc in omega arith)
  closing_not false e h = record { closed = λ i. absurd (let z : ◌≡◌ {A = ℕ} 0 1 = cc in omega arith); still = λ _ i. absurd (let y : false ≡ true = e ∙ i in let z : ◌≡◌ {A = ℕ} 0 1 = cc in omega arith) }

  pub closing_some : (b : Bool) → b ≡ is_edge (kind_at s (k / 2)) → not b ≡ false → is_edge (kind_at s (k / 2)) ≡ true
  closing_some true e h = sym e
  closing_some false e h = absurd (let z : ◌≡◌ {A = ℕ} 0 1 = cc in omega arith)

-- ---- the way back, and the edge

module _ {s w : List ℕ} {n k : ℕ} {t : List ℕ} (a : FinishAsks s w n k t) where
  both : (raw t (step_at s w k).to (step_at s w k).from < nowhere) × (raw t (step_at s w k).to (step_at s w k).from + (step_at s w k).up < middle + (step_at s w k).down)
  both =
      let v = raw t (step_at s w k).to (step_at s w k).from in
      let h = and_true (ltb v nowhere) (ltb (v + (step_at s w k).up) (middle + (step_at s w k).down)) a.closes in
      (ltb-true v nowhere h.0, ltb-true (v + (step_at s w k).up) (middle + (step_at s w k).down) h.1)

  pub finish_asks : {e : Step} → e ≡ step_at s w k → WayAsks s w (k / 2) n t e.to e.from
  finish_asks e =
      let f = within a.asks a.some in
      rw e (record { reach = record { ready = closing_ready a.asks; filled = a.filled; end = f.0 }; start = f.1; joined = both.0 })

  module _ {e : Step} (ee : e ≡ step_at s w k) {z : Way} (b : WayOf s w (k / 2) (raw t e.to e.from) e.to e.from z) where
    pub finish_room : z.count < side
    finish_room = omega (arith, ap (λ (r : Way). r.count) b.is, b.few)

    pub finish_round : {r : Way} → r ≡ with_step z e → RoundOf s w (k / 2 + 1) r
    finish_round {r} er =
        let l = both in
        let l1 : raw t e.to e.from + e.up < middle + e.down = rw ee l.1 in
        record {
          steps = b.steps ++ (e ∷ []);
          is = er ∙ same;
          few = omega (arith, length-append b.steps (e ∷ []), b.few);
          each = all_more (StepIn s w (k / 2 + 1)) b.steps e (all_over (StepIn s w (k / 2)) (StepIn s w (k / 2 + 1)) b.steps (λ f h. record { below = omega (arith, h.below); edge = h.edge }) b.each) last;
          at = e.to;
          leads = leads_more b.steps e e.to b.leads;
          below = omega (arith, ups_more b.steps e, downs_more b.steps e, b.sum);
        }
      where
        last : StepIn s w (k / 2 + 1) e
        last = rw ee (step_fits (fewer_rows (omega (arith, a.asks.below)) a.asks.ready) k (omega arith) a.some)

        same : with_step z e ≡ way_as (b.steps ++ (e ∷ []))
        same =
            let g : length (b.steps ++ (e ∷ [])) ≡ length b.steps + 1 = length-append b.steps (e ∷ []) in
            rw (b.is, g, stored b.steps (length b.steps) side e no_step refl b.few) refl

-- ---- all of them in order

pub record Rounding (s w : List ℕ) (m n end k : ℕ) : Type 0 where
  pub asks : RoundAsks s w m n
  pub whole : end ≡ 2 * m
  pub within : k ≤ 2 * m
  pub consistent : Consistent (SheetEdge s w (k / 2))
  pub half : k % 2 ≡ 1 → is_edge (kind_at s (k / 2)) ≡ true → Open (SheetEdge s w (k / 2)) (step_at s w (2 * (k / 2)))

pub rounding_none : {s w : List ℕ} {m n : ℕ} → RoundAsks s w m n → Rounding s w m n (2 * m) 0
rounding_none {s} {w} a = record {
  asks = a;
  whole = refl;
  within = omega arith;
  consistent = record { round = λ v. nowhere_to v };
  half = λ h. absurd (omega arith);
}
  where
    nowhere_to : {X Y u d : ℕ} → Walk (SheetEdge s w 0) X Y u d → d ≤ u
    nowhere_to nil = omega arith
    nowhere_to (step e v) = absurd (omega (arith, e.below))

module _ {s w : List ℕ} {m n end k : ℕ} (f : Rounding s w m n end k) where
  pub rounding_all : end ≤ k → RoundOf s w m (way_as [])
  rounding_all h =
      let e : k / 2 ≡ m = omega (arith, f.whole, f.within) in
      absurd (not_both (SheetEdge s w m) (rw e at f.consistent) f.asks.cycle)

  module _ (l : k < end) where
    below : k / 2 < m
    below = omega (arith, f.whole)

    pub rounding_asks : ClosingAsks s w n k
    rounding_asks = record { m = m; ready = f.asks.ready; below = below; consistent = f.consistent }

    pub rounding_here : {r : Way} → RoundOf s w (k / 2 + 1) r → RoundOf s w m r
    rounding_here r = record {
      steps = r.steps;
      is = r.is;
      few = r.few;
      each = all_over (StepIn s w (k / 2 + 1)) (StepIn s w m) r.steps (λ e h. record { below = omega (arith, h.below, below); edge = h.edge }) r.each;
      at = r.at;
      leads = r.leads;
      below = r.below;
    }

    pub rounding_more : {t : List ℕ} {r : Bool} → Closing s w n k t r → r ≡ false → Rounding s w m n end (k + 1)
    rounding_more c h = elim (ℕ_discrete (k % 2) 1) [
      | yes p ↦ after p
      | no p ↦ before p
    ]
      where
        still : is_edge (kind_at s (k / 2)) ≡ true → Open (SheetEdge s w (k / 2)) (step_at s w k)
        still = c.still h

        after : k % 2 ≡ 1 → Rounding s w m n end (k + 1)
        after p =
            let e : (k + 1) / 2 ≡ k / 2 + 1 = omega arith in
            let g : k ≡ 2 * (k / 2) + 1 = omega arith in
            record {
              asks = f.asks;
              whole = f.whole;
              within = omega (arith, f.whole);
              consistent = rw e (row_more s w (k / 2) f.consistent (f.half p) (λ i. subst (λ (j : ℕ). Open (SheetEdge s w (k / 2)) (step_at s w j)) g (still i)));
              half = λ i. absurd (omega arith);
            }

        before : (k % 2 ≡ 1 → ⊥) → Rounding s w m n end (k + 1)
        before p =
            let e : (k + 1) / 2 ≡ k / 2 = omega arith in
            let g : k ≡ 2 * (k / 2) = omega arith in
            record {
              asks = f.asks;
              whole = f.whole;
              within = omega (arith, f.whole);
              consistent = rw e f.consistent;
              half = λ _. rw e (λ i. subst (λ (j : ℕ). Open (SheetEdge s w (k / 2)) (step_at s w j)) g (still i));
            }
