-- One projection, judged by two tables, of all distances and of the least ways: any edges first, then those of a sheet.
-- Assumes nothing.
use mathlib.Core.Path.{◌≡◌, refl}
use mathlib.Core.Logic.{inl, inr}
use mathlib.Core.Bool.{Bool, true, false, not}
use mathlib.Core.List.{List}
use Prim.Native.Nat.{ℕ, ◌+◌, ◌<◌}
use native.Mathlib.Omega.{arith}
use native.Mathlib.Decide.{dec_lt}
use borrow.Author.Tests.{leb-true, le-leb}
use Rattle.network.specs.Walks.{nil, NonNegative, vee}
use Rattle.network.specs.Passing.{Cycle, Consistent, Fine, Bad, Good}
use Rattle.network.proofs.Laws.{over}
use Rattle.tables.specs.declared.table.Part.{Part}
use Rattle.tables.specs.declared.table.Part.TheVariants.{All, Rising}
use Rattle.std.specs.Prelude.{None, Some}
use Rattle.tables.specs.Tables.{Table}
use Rattle.tables.specs.Entries.{at, Shallow}
use Rattle.tables.specs.Distances.{Inside, Distances}
use Rattle.tables.specs.Steps.{PartOf}
use Rattle.rows.specs.Sheet.{SheetEdge, SheetReady}
use Rattle.rows.specs.Filled.{Filled}
use Rattle.rows.proofs.Lays.{inside}
use Rattle.projection.specs.Findings.{JudgeReady}
use Rattle.projection.specs.Judging.{Before, FirstBad}
use Rattle.pairs.specs.Pairs.{Kept, Undercut, FirstPair, no_pair, pair}
use Rattle.rounds.specs.Ways.{LeastWays, RoundReady, Settled}
use Rattle.projection.proofs.Laws.{same_distances, fine_outside, ends}
use Rattle.rounds.proofs.Easing.{least_way_lem}

-- a cycle of a part is one of all
pub part_cycle : {b : Part} {E : ℕ → ℕ → ℕ → ℕ → Type 0} → Cycle (PartOf b E) → Cycle E
part_cycle c = record { at = c.at; up = c.up; down = c.down; walk = over (λ X Y u d p. p.edge) c.walk; below = c.below }

pub all_consistent : {E : ℕ → ℕ → ℕ → ℕ → Type 0} → Consistent (PartOf All E) → Consistent E
all_consistent c = record { round = λ w. c.round (over (λ X Y u d e. record { edge = e; taken = refl }) w) }

-- a part of the edges by another name
pub all_edges : {E : ℕ → ℕ → ℕ → ℕ → Type 0} {n : ℕ} {f : Table} → Distances (PartOf All E) n f → Distances E n f
all_edges = same_distances (λ X Y u d e. e.edge) (λ X Y u d e. record { edge = e; taken = refl })

pub rising_edges : {E : ℕ → ℕ → ℕ → ℕ → Type 0} {n : ℕ} {r : Table} → Distances (PartOf Rising E) n r → Distances (NonNegative E) n r
rising_edges = same_distances (λ X Y u d e. record { edge = e.edge; above = leb-true d u e.taken }) (λ X Y u d e. record { edge = e.edge; taken = le-leb d u e.above })

-- pairs that are no trouble are fine, and those that are trouble are bad: so the first of these is the first bad pair
module _ (E : ℕ → ℕ → ℕ → ℕ → Type 0) (n : ℕ) (in_plan : Inside E n) (consistent : Consistent E) (Ok Trouble : ℕ → ℕ → Type 0) (ok : (X Y : ℕ) → X < n → Y < n → Ok X Y → Fine E X Y) (trouble : (X Y : ℕ) → X < n → Y < n → Trouble X Y → Bad E X Y) where
  -- so is any other than two of the plan's points
  is_fine : (X Y : ℕ) → (X < n → Y < n → Ok X Y) → Fine E X Y
  is_fine X Y h j = elim (dec_lt X n) [
    | yes hx ↦ let hy = ends E n in_plan hx j.walk in ok X Y hx hy (h hx hy) j
    | no hx ↦ fine_outside E n in_plan hx j
  ]

  pub good_by : FirstPair n Ok Trouble None → Good E
  good_by (no_pair h) = record { consistent = consistent; dispatchable = record { best = λ X Y. is_fine X Y (h X Y) } }

  pub pair_by : {X Y : ℕ} → FirstPair n Ok Trouble (Some (X, Y)) → FirstBad E X Y
  pair_by {X} {Y} (pair hx hy before row here) = record { consistent = consistent; bad = trouble X Y hx hy here; before = earlier }
    where
      earlier : (X' Y' : ℕ) → Before X' Y' X Y → Fine E X' Y'
      earlier X' Y' (inl l) = is_fine X' Y' (λ _ h. before X' Y' l h)
      earlier X' Y' (inr l) = is_fine X' Y' (λ _ _. rw l.0 (row Y' l.1))

-- the distances f and the least ways v tell them
module _ (E : ℕ → ℕ → ℕ → ℕ → Type 0) (n : ℕ) (in_plan : Inside E n) (f v : Table) (all : Distances E n f) (least : LeastWays E n v) where
  pub kept_fine : (X Y : ℕ) → X < n → Y < n → Kept f v X Y → Fine E X Y
  kept_fine X Y hx hy k j =
      let h = (all.least X Y j.up j.down hx j.walk).0 in
      let r = least.ways.real X Y hx hy (omega (arith, k h)) in
      record { up = r.up; down = r.down; walk = r.walk; least = λ {u} {d} w. omega (arith, all.least X Y u d hx w, r.weight, k h) }

  pub undercut_bad : (X Y : ℕ) → X < n → Y < n → Undercut f v X Y → Bad E X Y
  undercut_bad X Y hx hy u =
      let a = all.real X Y hx hy u.0 in
      record {
        joined = record { up = a.up; down = a.down; walk = a.walk };
        none = λ s. omega (arith, u.1, a.weight, s.least a.walk, (least_way_lem E n in_plan least hx hy s.walk).1);
      }

-- a table of a sheet that was closed, or not
pub some_cycle : {b : Part} {s w t : List ℕ} {m n : ℕ} (r : Bool) → not r ≡ true → Filled b s w m n t r → Cycle (SheetEdge s w m)
some_cycle true e f = absurd (let z : ◌≡◌ {A = ℕ} 0 1 = cc in omega arith)
some_cycle false e f = part_cycle f.verdict

pub part_distances : {b : Part} {s w t : List ℕ} {m n : ℕ} (r : Bool) → not r ≡ false → Filled b s w m n t r → Distances (PartOf b (SheetEdge s w m)) n (at t) × Consistent (PartOf b (SheetEdge s w m)) × Shallow n (at t)
part_distances true e f = f.verdict
part_distances false e f = absurd (let z : ◌≡◌ {A = ℕ} 0 1 = cc in omega arith)

-- one that was closed has the distances of a projection that can be judged by them
pub may_judge : (s w : List ℕ) (m n : ℕ) → SheetReady s w m n → (t : List ℕ) (r : Bool) → not r ≡ false → Filled All s w m n t r → JudgeReady s w m n t
may_judge s w m n ready t true e f = record { ready = ready; filled = f }
may_judge s w m n ready t false e f = absurd (let z : ◌≡◌ {A = ℕ} 0 1 = cc in omega arith)

module _ (s w : List ℕ) (m n : ℕ) (ready : SheetReady s w m n) (f : List ℕ) (a : Bool) (ha : not a ≡ false) (fa : Filled All s w m n f a) where
  all : Distances (SheetEdge s w m) n (at f)
  all = all_edges (part_distances a ha fa).0

  -- the table of the non-negative edges is one of ways, before the first round
  pub may_settle : (r : List ℕ) (b : Bool) → not b ≡ false → Filled Rising s w m n r b → RoundReady s w m n r
  may_settle r b hb fb = record {
    ready = ready;
    capped = record { long = fb.sound.long; most = fb.sound.most };
    ways = record {
      real = λ X Y hx hy h. let k = rises.real X Y hx hy h in record { up = 0 + k.up; down = 0 + k.down; walk = vee nil k.walk; weight = omega (arith, k.weight) };
      flat = rises.least;
      distance = at f;
      distances = all;
      near = (part_distances a ha fa).2;
    };
  }
    where
      rises : Distances (NonNegative (SheetEdge s w m)) n (at r)
      rises = rising_edges (part_distances b hb fb).0

  module _ (v : List ℕ) (settled : Settled s w m n v) where
    fines : (X Y : ℕ) → X < n → Y < n → Kept (at f) (at v) X Y → Fine (SheetEdge s w m) X Y
    fines = kept_fine (SheetEdge s w m) n (inside ready (omega arith)) (at f) (at v) all settled.least

    bads : (X Y : ℕ) → X < n → Y < n → Undercut (at f) (at v) X Y → Bad (SheetEdge s w m) X Y
    bads = undercut_bad (SheetEdge s w m) n (inside ready (omega arith)) (at f) (at v) all settled.least

    pub judged_good : FirstPair n (Kept (at f) (at v)) (Undercut (at f) (at v)) None → Good (SheetEdge s w m)
    judged_good = good_by (SheetEdge s w m) n (inside ready (omega arith)) (all_consistent (part_distances a ha fa).1) (Kept (at f) (at v)) (Undercut (at f) (at v)) fines bads

    pub judged_pair : {X Y : ℕ} → FirstPair n (Kept (at f) (at v)) (Undercut (at f) (at v)) (Some (X, Y)) → FirstBad (SheetEdge s w m) X Y
    judged_pair = pair_by (SheetEdge s w m) n (inside ready (omega arith)) (all_consistent (part_distances a ha fa).1) (Kept (at f) (at v)) (Undercut (at f) (at v)) fines bads
