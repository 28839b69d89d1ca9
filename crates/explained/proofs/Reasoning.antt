-- Why a projection of a sheet's records fails, as the functions find it. Assumes nothing.
use mathlib.Core.Path.{◌≡◌, refl, ◌∙◌}
use mathlib.Core.Bool.{Bool, true, false}
use mathlib.Core.List.{List, [], ◌∷◌}
use Prim.Native.Nat.{ℕ, zero, suc, ◌+◌, ◌-◌, ◌<◌, ◌≤◌}
use native.Mathlib.Omega.{arith}
use lib.ListN.{length, get_or, replicate, length-append, length-replicate, get_or-append}
use lib.Seq.{take-append_seam}
use Rattle.numbers.specs.Fits.{All}
use Rattle.plan.specs.Limits.{farthest}
use Rattle.network.specs.Walks.{Walk, Vee}
use Rattle.network.proofs.Laws.{not_both}
use Rattle.tables.specs.declared.table.Part.TheVariants.{All as Every}
use Rattle.tables.specs.Tables.{side}
use Rattle.tables.specs.Entries.{raw, middle, nowhere}
use Rattle.tables.proofs.Widths.{wide_in, finite}
use Rattle.rows.specs.Sheet.{SheetEdge, SheetReady}
use Rattle.rows.specs.Filled.{Filled}
use Rattle.projection.proofs.Judges.{all_edges, part_cycle}
use Rattle.lengths.specs.declared.Length.{Length}
use Rattle.std.specs.Prelude.{Option, None, Some}
use Rattle.lengths.specs.Lengths.{length_of, Least}
use Rattle.lengths.specs.Meets.{AllowAsks}
use Rattle.ways.specs.declared.steps.Step.{Step}
use Rattle.ways.specs.declared.steps.Way.{Way}
use Rattle.ways.specs.Steps.{ups, downs, no_step, way_as, StepIn}
use Rattle.ways.specs.Toward.{WayAsks, WayOf}
use Rattle.ways.specs.Round.{RoundAsks, RoundOf}
use Rattle.ways.proofs.Laws.{laid_fits}
use Rattle.explained.specs.declared.drives.Drives.{Drives}
use Rattle.explained.specs.Drives.{drives_as, drives_from}
use Rattle.explained.specs.Reasons.{steps_of, SumAsks, PairIn, PairShown, RoundIn, RoundShown}

-- the steps of a way as it is handed back
steps_of_lem : {r : Way} (es : List Step) → r ≡ way_as es → steps_of r ≡ es
steps_of_lem es e = rw e (take-append_seam es (replicate (side - length es) no_step))

-- they are small
small : (s w : List ℕ) (m n : ℕ) → SheetReady s w m n → (es : List Step) → All (StepIn s w m) es → (k : ℕ) → k < length es → ((get_or es k no_step).up ≤ farthest) × ((get_or es k no_step).down ≤ farthest)
small s w m n o [] a k h = absurd (omega arith)
small s w m n o (e ∷ es) a zero h = let f = laid_fits o a.0.below a.0.edge in (f.2, f.3)
small s w m n o (e ∷ es) a (suc k) h = small s w m n o es a.1 k (omega arith)

sums : {s w : List ℕ} {m n : ℕ} → SheetReady s w m n → {r : Way} (es : List Step) → r ≡ way_as es → length es ≤ side → All (StepIn s w m) es → SumAsks r.count r.steps
sums {s} {w} {m} {n} o es e few each =
    rw e
    (record {
      few = few;
      long = length-append es (replicate (side - length es) no_step) ∙ omega (arith, length-replicate {A = Step} (side - length es) no_step);
      up = λ k h. rw (get_or-append es (replicate (side - length es) no_step) no_step k h) (small s w m n o es each k h).0;
      down = λ k h. rw (get_or-append es (replicate (side - length es) no_step) no_step k h) (small s w m n o es each k h).1;
    })

-- ---- a pair

module _ {s w : List ℕ} {m n x y : ℕ} (a : PairIn s w m n x y) where
  pub pair_allows : AllowAsks s w m n x y
  pair_allows = record { ready = a.ready; consistent = a.consistent; from = a.from; to = a.to }

  module _ {t : List ℕ} where
    whole : (b : Bool) → Filled Every s w m n t b → Filled Every s w m n t true
    whole true f = f
    whole false f = absurd (not_both (SheetEdge s w m) a.consistent (part_cycle f.verdict))

    module _ {b : Bool} (f : Filled Every s w m n t b) where
      at_least : (u d : ℕ) → Walk (SheetEdge s w m) x y u d → (raw t x y < nowhere) × (raw t x y + d ≤ middle + u)
      at_least u d v =
          let l = (all_edges (whole b f).verdict.0).least x y u d a.from v in
          let k = finite (raw t x y) l.0 in
          (k, omega (arith, l.1, wide_in (raw t x y) k))

      pub pair_way : WayAsks s w m n t x y
      pair_way = record {
        reach = record { ready = a.ready; filled = whole b f; end = a.to };
        start = a.from;
        joined = (at_least a.joined.up a.joined.down a.joined.walk).0;
      }

      module _ {z : Way} (g : WayOf s w m (raw t x y) x y z) where
        pub pair_sums : SumAsks z.count z.steps
        pair_sums = sums a.ready g.steps g.is (omega (arith, g.few)) g.each

        pub pair_shown : {l : Length} {best : Option Length} {ds : Drives} → l ≡ length_of (ups (steps_of z)) (downs (steps_of z)) → Least (Vee (SheetEdge s w m) x y) best → ds ≡ drives_as (drives_from s w 0 m)
            → PairShown s w m x y (record { drives = ds; shortest = Some l; allowed = best; way = z; sum = Some l })
        pair_shown {l} {best} el eb ed =
            let e = steps_of_lem g.steps g.is in
            record {
              steps = g.steps;
              best = best;
              is = rw (el, ed, e, g.is) refl;
              each = g.each;
              leads = g.leads;
              least = λ u d v. omega (arith, at_least u d v, g.sum);
              allowed = eb;
            }

-- ---- a cycle

module _ {s w : List ℕ} {m n : ℕ} (a : RoundIn s w m n) where
  pub round_asks : RoundAsks s w m n
  round_asks = record { ready = a.ready; cycle = a.cycle }

  module _ {z : Way} (g : RoundOf s w m z) where
    pub round_sums : SumAsks z.count z.steps
    round_sums = sums a.ready g.steps g.is g.few g.each

    pub round_shown : {l : Length} {ds : Drives} → l ≡ length_of (ups (steps_of z)) (downs (steps_of z)) → ds ≡ drives_as (drives_from s w 0 m)
        → RoundShown s w m (record { drives = ds; shortest = None; allowed = None; way = z; sum = Some l })
    round_shown el ed =
        let e = steps_of_lem g.steps g.is in
        record { steps = g.steps; is = rw (el, ed, e, g.is) refl; each = g.each; at = g.at; leads = g.leads; below = g.below }
