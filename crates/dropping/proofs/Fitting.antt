-- One projection, and all of them, asked whether they are good and reach from one point to another: first on a sheet, then of a
-- plan. Assumes nothing.
use mathlib.Core.Path.{◌≡◌, refl, sym, ap, subst, ◌∙◌}
use mathlib.Core.Bool.{Bool, true, false, not}
use mathlib.Core.List.{List, []}
use Prim.Native.Nat.{ℕ, ◌+◌, ◌<◌, ◌≤◌}
use native.Mathlib.Omega.{arith}
use native.Mathlib.Decide.{ℕ_discrete}
use lib.ListN.{length, get_or, length-take}
use borrow.Author.Tests.{eqb-true}
use Rattle.plan.specs.Limits.{farthest, most_records}
use Rattle.plan.specs.APlan.{ordinary, is, points, links, gap_of, records_of}
use Rattle.records.specs.declared.Record.{Record}
use Rattle.plan.specs.declared.Plan.{Plan}
use Rattle.numbers.specs.declared.Gap.{Gap}
use Rattle.network.proofs.Laws.{not_both, not_fine, over}
use Rattle.tables.specs.declared.table.Part.TheVariants.{All}
use Rattle.tables.specs.Entries.{middle, nowhere, raw, at}
use Rattle.tables.specs.Distances.{Distances}
use Rattle.tables.proofs.Widths.{wide_in, finite, wide_there}
use Rattle.rows.specs.Sheet.{SheetEdge}
use Rattle.rows.specs.Layout.{LaidOut}
use Rattle.rows.specs.Filled.{Filled}
use Rattle.projection.specs.declared.Finding.TheVariants as finding
use Rattle.projection.specs.Findings.{FoundOf, is_good, has_cycle_lem, has_pair, JudgeReady}
use Rattle.projection.proofs.Laws.{same_good}
use Rattle.projection.proofs.Judges.{all_edges, some_cycle, may_judge}
use Rattle.vee.specs.PlanTest.{spans, projections, unset, many, most_projections, edges_of}
use Rattle.vee.specs.Walked.{spans_in}
use Rattle.vee.proofs.Rules.{Valid}
use Rattle.vee.proofs.Sheets.{to_sheet, from_sheet}
use Rattle.vee.proofs.Testing.{accepted_plan, links_are, may_walk}
use Rattle.choices.specs.Choices.{chosen, ChooseAsks, ChosenAs}
use Rattle.choices.proofs.Decoding.{projection_chosen}
use Rattle.dropping.specs.Spare.{Told, told_yes, told_no, Reaches, Enough, Spare, FitAsks, EnoughRows, AllAsks, AllEnough, SpareReady, SpareAsks}

-- what is told of one statement is told of another that holds exactly where it does
pub told_of : {P Q : Type 0} {b : Bool} → (P → Q) → (Q → P) → Told P b → Told Q b
told_of to from (told_yes p) = told_yes (to p)
told_of to from (told_no n) = told_no (λ q. n (from q))

-- ---- one projection of a sheet

module _ {s w : List ℕ} {m n x y most : ℕ} (a : FitAsks s w m n x y most) {t : List ℕ} {r : Bool} (f : Filled All s w m n t r) where
  -- a cycle
  pub fits_cycle : not r ≡ true → Told (EnoughRows s w m x y most) false
  fits_cycle e = told_no (λ h. not_both (SheetEdge s w m) h.good.consistent (some_cycle r e f))

  module _ (e : not r ≡ false) where
    pub fits_judged : JudgeReady s w m n t
    fits_judged = may_judge s w m n a.ready t r e f

    distances : Distances (SheetEdge s w m) n (at t)
    distances = all_edges fits_judged.filled.verdict.0

    -- the distance is past what is asked
    pub fits_far : most < raw t x y → Told (EnoughRows s w m x y most) false
    fits_far l =
        told_no (λ h.
        let k = h.reaches in
        let d = distances.least x y k.up k.down a.from k.walk in
        omega (arith, d.1, wide_in (raw t x y) (finite (raw t x y) d.0), k.short))

    -- or it is not, and what is found of the projection says the rest
    fits_near : raw t x y ≤ most → Reaches (SheetEdge s w m) x y most middle
    fits_near l =
        let v = raw t x y in
        let in-range : v < nowhere = omega (arith, a.small) in
        let k = distances.real x y a.from a.to (wide_there v in-range) in
        record { up = k.up; down = k.down; walk = k.walk; short = omega (arith, k.weight, wide_in v in-range) }

    pub fits_good : raw t x y ≤ most → FoundOf (SheetEdge s w m) finding.Good → Told (EnoughRows s w m x y most) true
    fits_good l (is_good g) = told_yes (record { good = g; reaches = fits_near l })

    pub fits_no_cycle : FoundOf (SheetEdge s w m) finding.Cycle → Told (EnoughRows s w m x y most) false
    fits_no_cycle (has_cycle_lem c) = told_no (λ h. not_both (SheetEdge s w m) h.good.consistent c)

    pub fits_no_pair : {X Y : ℕ} → FoundOf (SheetEdge s w m) (finding.Pair X Y) → Told (EnoughRows s w m x y most) false
    fits_no_pair {X} {Y} (has_pair p) = told_no (λ h. not_fine (SheetEdge s w m) (h.good.dispatchable.best X Y) p.bad)

-- ---- all projections of a sheet

-- those before number i are enough
pub record Sofar (s : List ℕ) (m n k total x y most past i : ℕ) : Type 0 where
  pub asks : AllAsks s m n k total x y most
  pub rows : past ≡ n + k
  pub within : i ≤ total
  pub so_far : AllEnough s m n k i x y most

pub sofar_none : {s : List ℕ} {m n k total x y most : ℕ} → AllAsks s m n k total x y most → Sofar s m n k total x y most (n + k) 0
sofar_none a = record { asks = a; rows = refl; within = omega arith; so_far = λ i h. absurd (omega arith) }

module _ {s : List ℕ} {m n k total x y most past i : ℕ} (f : Sofar s m n k total x y most past i) where
  module _ (h : i < total) where
    pub sofar_choose : ChooseAsks s past k total i
    sofar_choose = rw f.rows (record { m = m; n = n; walk = f.asks.walk; counted = f.asks.counted; one = h })

    module _ {w : List ℕ} (c : ChosenAs s past k i w) where
      is_chosen : w ≡ chosen (spans_in s (n + k) k) unset i
      is_chosen = rw f.rows at c.is

      pub sofar_fits : FitAsks s w m n x y most
      sofar_fits =
          let o = f.asks.walk.ready in
          record {
            ready = record {
              wide = c.wide;
              rows = o.rows;
              few = o.few;
              from = o.from;
              to = o.to;
              over = o.over;
              first = o.first;
              second = o.second;
              durations = c.small;
            };
            from = f.asks.from;
            to = f.asks.to;
            small = f.asks.small;
          }

      pub sofar_no : (b : Bool) → not b ≡ true → Told (EnoughRows s w m x y most) b → Told (AllEnough s m n k total x y most) false
      sofar_no b e (told_yes g) = absurd (let z : ◌≡◌ {A = ℕ} 0 1 = cc in omega arith)
      sofar_no b e (told_no g) = told_no (λ all. g (rw is_chosen (all i h)))

      pub sofar_more : (b : Bool) → not b ≡ false → Told (EnoughRows s w m x y most) b → Sofar s m n k total x y most past (i + 1)
      sofar_more b e (told_no g) = absurd (let z : ◌≡◌ {A = ℕ} 0 1 = cc in omega arith)
      sofar_more b e (told_yes g) = record { asks = f.asks; rows = f.rows; within = omega arith; so_far = on }
        where
          on : AllEnough s m n k (i + 1) x y most
          on j l = elim (ℕ_discrete j i) [
            | yes q ↦ rw q (subst (λ (v : List ℕ). EnoughRows s v m x y most) is_chosen g)
            | no q ↦ f.so_far j (omega arith)
          ]

  pub sofar_all : total ≤ i → Told (AllEnough s m n k total x y most) true
  sofar_all h = told_yes (λ j l. f.so_far j (omega arith))

-- ---- the projections of a plan

module _ {p : Plan} {r : Record} {total : ℕ} (asks : SpareAsks p r total) where
  -- a record that is not ordinary is needed
  pub spare_other : (r.kind ≡ 3 → ⊥) → Told (Spare (records_of p) r) false
  spare_other h = told_no (λ s. h (eqb-true r.kind 3 s.is))

  module _ (kind : r.kind ≡ 3) where
    so : is ordinary r ≡ true
    so = rw kind refl

    a : SpareReady p r total
    a = asks.ready so

    pub spare_few : p.count ≤ most_records
    spare_few = (accepted_plan p a.ok).0

    pub spare_bounds : {g : Gap} → g ≡ gap_of r.first → (g.up ≤ farthest) × (g.down ≤ farthest)
    spare_bounds e = rw e (a.up, a.down)

    module _ (long : length p.records ≡ most_records) {s : List ℕ} (laid : LaidOut (records_of p) s) {n k : ℕ} (en : n ≡ points (records_of p)) (ek : k ≡ links (records_of p)) {g : Gap} (eg : g ≡ gap_of r.first) (most : ℕ)
        (em : most + g.down ≡ middle + g.up) where
      v : Valid [] (records_of p)
      v = (accepted_plan p a.ok).1

      all_records : length (records_of p) ≡ p.count
      all_records = omega (arith, length-take p.count p.records, spare_few)

      room : length (records_of p) ≤ most_records
      room = omega (arith, all_records, spare_few)

      same_links : spans_in s (n + k) k ≡ spans (records_of p)
      same_links = rw (en, ek) (links_are (records_of p) v s laid room)

      -- it is between points, and its bound is one that a table can have
      pub spare_all : AllAsks s p.count n k total r.a r.b most
      spare_all =
          let few : many (spans_in s (n + k) k) ≤ most_projections = omega (arith, ap many same_links, a.counted, a.few) in
          record {
            walk = rw (← all_records, en, ek) (may_walk (records_of p) v s laid room (rw (en, ek) at few));
            counted = a.counted ∙ ap many (sym same_links);
            from = omega (arith, en, a.from);
            to = omega (arith, en, a.to);
            small = omega (arith, em, spare_bounds eg);
          }

      -- what is enough on the sheet is enough in the plan, and the other way about
      module _ (w : List ℕ) where
        abbrev E : ℕ → ℕ → ℕ → ℕ → Type 0
        E = SheetEdge s w p.count

        abbrev F : ℕ → ℕ → ℕ → ℕ → Type 0
        F = edges_of (records_of p) w

        there : (X Y u d : ℕ) → E X Y u d → F X Y u d
        there X Y u d e = from_sheet (records_of p) v s laid w X Y u d (rw (← all_records) at e)

        back : (X Y u d : ℕ) → F X Y u d → E X Y u d
        back X Y u d e = rw all_records at (to_sheet (records_of p) v s laid w X Y u d e)

        to_plan : Enough E r.a r.b most middle → Enough F r.a r.b (gap_of r.first).up (gap_of r.first).down
        to_plan h =
            let k = h.reaches in
            let em' : most + (gap_of r.first).down ≡ middle + (gap_of r.first).up = rw eg at em in
            record { good = same_good there back h.good; reaches = record { up = k.up; down = k.down; walk = over there k.walk; short = omega (arith, k.short, em') } }

        to_rows : Enough F r.a r.b (gap_of r.first).up (gap_of r.first).down → Enough E r.a r.b most middle
        to_rows h =
            let k = h.reaches in
            let em' : most + (gap_of r.first).down ≡ middle + (gap_of r.first).up = rw eg at em in
            record { good = same_good back there h.good; reaches = record { up = k.up; down = k.down; walk = over back k.walk; short = omega (arith, k.short, em') } }

      -- projection number i of the plan, as the sheet's links choose it
      one : (i : ℕ) → i < total → chosen (spans_in s (n + k) k) unset i ≡ get_or (projections (spans (records_of p)) unset) i []
      one i h = ap (λ ls. chosen ls unset i) same_links ∙ sym (projection_chosen (spans (records_of p)) unset i (omega (arith, a.counted)))

      pub spare_found : {b : Bool} → Told (AllEnough s p.count n k total r.a r.b most) b → Told (Spare (records_of p) r) b
      spare_found = told_of to from
        where
          to : AllEnough s p.count n k total r.a r.b most → Spare (records_of p) r
          to h = record { is = so; each = λ i l. let m : i < total = omega (arith, a.counted) in to_plan (get_or (projections (spans (records_of p)) unset) i []) (rw (one i m) at (h i m)) }

          from : Spare (records_of p) r → AllEnough s p.count n k total r.a r.b most
          from h i l = rw (one i l) (to_rows (get_or (projections (spans (records_of p)) unset) i []) (h.each i (omega (arith, a.counted))))
