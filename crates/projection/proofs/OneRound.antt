-- Why one round over the negative edges is enough, by the distances themselves: where each distance is that of a walk of non-negative
-- edges, or that of a negative edge and then a distance, each is that of a walk of negative edges and then non-negative ones. Assumes
-- nothing.
use mathlib.Core.Path.{◌≡◌, refl, ap, ◌∙◌}
use mathlib.Core.Logic.{◌⊎◌, inl, inr, ⊎_elim}
use mathlib.Core.Bool.{Bool, true, false, true≢false, not}
use mathlib.Core.List.{List}
use Prim.Native.Nat.{ℕ, zero, suc, ◌+◌, ◌*◌, ◌<◌, ◌≤◌}
use native.Mathlib.Omega.{arith}
use native.Mathlib.Decide.{dec_lt, ℕ_discrete}
use lib.ListN.{get_or}
use Rattle.network.specs.Walks.{nil, step, Negative, NonNegative, Vee, vee}
use Rattle.network.specs.Passing.{Consistent, Fine, Good}
use Rattle.tables.specs.declared.table.Part.TheVariants.{Rising}
use Rattle.tables.specs.Tables.{Table, bias, none, side}
use Rattle.tables.specs.Entries.{wide, raw, at}
use Rattle.tables.specs.Distances.{Inside, Attained, Distances}
use Rattle.rows.specs.Sheet.{SheetEdge, SheetReady, row_at, by}
use Rattle.rows.specs.Filled.{Filled}
use Rattle.rows.specs.declared.sheet.Row.{Row}
use Rattle.rows.proofs.Lays.{inside}
use Rattle.rounds.specs.declared.Fall.{Fall}
use Rattle.std.specs.Prelude.{Option, None, Some, is_some}
use Rattle.projection.specs.Findings.{JudgeReady}
use Rattle.pairs.specs.Pairs.{Kept, Undercut, FirstPair, no_pair}
use Rattle.rounds.specs.Ways.{fall_of, Capped, DroppedRow, RowLowered, LowerReady}
use Rattle.projection.specs.Once.{Fallen, FellBy, OnceReady, OnceDone}
use Rattle.projection.proofs.Laws.{fine_outside, ends}
use Rattle.rounds.proofs.Lowering.{shorter}
use Rattle.rounds.proofs.Rounding as Rounding
use Rattle.projection.proofs.Judges.{all_edges, rising_edges, all_consistent, part_distances}

-- ---- the theorem

-- a way from X to Y that is no heavier than v
record Light (E : ℕ → ℕ → ℕ → ℕ → Type 0) (X Y v : ℕ) : Type 0 where
  up : ℕ
  down : ℕ
  walk : Vee E X Y up down
  weight : bias + up ≤ v + down

module _ (E : ℕ → ℕ → ℕ → ℕ → Type 0) (n : ℕ) (in_plan : Inside E n) (D W G : Table) (all : Distances E n D) (rises : Distances (NonNegative E) n W)
    (from : (X Y : ℕ) → X < n → Y < n → (G X Y ≡ W X Y) ⊎ Fallen E D X Y (G X Y)) (kept : (X Y : ℕ) → X < n → Y < n → Kept D G X Y) where
  flat : {X Y v w : ℕ} → Attained (NonNegative E) X Y v → v ≤ w → Light E X Y w
  flat a h = record { up = 0 + a.up; down = 0 + a.down; walk = vee nil a.walk; weight = omega (arith, a.weight) }

  front : {X Z Y u d v w : ℕ} → Negative E X Z u d → v + u ≤ w + d → Light E Z Y v → Light E X Y w
  front {X} {Z} {Y} {u} {d} {v} {w} e h r = go r.walk r.weight
    where
      go : {a b : ℕ} → Vee E Z Y a b → bias + a ≤ v + b → Light E X Y w
      go (vee {u = u₁} {d = d₁} {u' = u₂} {d' = d₂} f g) l = record { up = u + u₁ + u₂; down = d + d₁ + d₂; walk = vee (step e f) g; weight = omega arith }

  -- a negative edge leads to a greater distance
  greater : {X Z Y u d : ℕ} → Y < n → E X Z u d → u < d → D Z Y < none → D X Y < D Z Y
  greater {X} {Z} {Y} {u} {d} hy e b f =
      let h = in_plan X Z u d e in
      let r = all.real Z Y h.1 hy f in
      let l = all.least X Y (u + r.up) (d + r.down) h.0 (step e r.walk) in
      omega (arith, l.1, r.weight)

  module _ (X Y : ℕ) (hx : X < n) (hy : Y < n) (f : D X Y < none) (again : (Z : ℕ) → Z < n → D Z Y < none → D X Y < D Z Y → Light E Z Y (D Z Y)) where
    old : G X Y ≡ W X Y → Light E X Y (D X Y)
    old e = let k = kept X Y hx hy f in flat (rises.real X Y hx hy (omega arith)) (omega arith)

    new : Fallen E D X Y (G X Y) → Light E X Y (D X Y)
    new b =
        let z = (in_plan X b.by b.up b.down b.edge).1 in
        let k = kept X Y hx hy f in
        front (record { edge = b.edge; below = b.below }) (omega (arith, b.weight)) (again b.by z b.there (greater hy b.edge b.below b.there))

  -- by how much is left above the distance
  go : (m X Y : ℕ) → X < n → Y < n → D X Y < none → none ≤ D X Y + m → Light E X Y (D X Y)
  go zero X Y hx hy f h = absurd (omega arith)
  go (suc m) X Y hx hy f h =
      let again : (Z : ℕ) → Z < n → D Z Y < none → D X Y < D Z Y → Light E Z Y (D Z Y) = λ Z hz g l. go m Z Y hz hy g (omega arith) in
      ⊎_elim (old X Y hx hy f again) (new X Y hx hy f again) (from X Y hx hy)

  fine : (X Y : ℕ) → X < n → Y < n → Fine E X Y
  fine X Y hx hy j =
      let h = (all.least X Y j.up j.down hx j.walk).0 in
      let r = go none X Y hx hy h (omega arith) in
      record { up = r.up; down = r.down; walk = r.walk; least = λ {u} {d} w. omega (arith, (all.least X Y u d hx w).1, r.weight) }

  pub once_good : Consistent E → Good E
  once_good c = record { consistent = c; dispatchable = record { best = λ X Y. best X Y } }
    where
      best : (X Y : ℕ) → Fine E X Y
      best X Y j = elim (dec_lt X n) [
        | yes hx ↦ fine X Y hx (ends E n in_plan hx j.walk) j
        | no hx ↦ fine_outside E n in_plan hx j
      ]

-- ---- what the functions do

module _ (n x z d : ℕ) (l a t t' : List ℕ) (ready : LowerReady n x z d a) (row : DroppedRow n z d a l) (c : Capped t) (g : RowLowered x l t t') where
  pub fell : FellBy n x z d a t t'
  fell = record { capped = g.capped; from = from }
    where
      here : (Y : ℕ) → Y < n → (at t' x Y ≡ at t x Y) ⊎ ((x ≡ x) × (at a z Y < none) × (at t' x Y + d ≡ at a z Y))
      here Y hy =
          let s = shorter (raw t x Y) (raw a z Y) d (get_or l Y 0) (raw t' x Y) (c.most (x * side + Y) (omega (arith, ready.row, ready.few))) (row.each Y hy) (g.done Y (omega (arith, ready.few))) in
          ⊎_elim (λ e. inl e) (λ e. inr (refl, e.0, e.1)) s.from

      from : (X Y : ℕ) → X < n → Y < n → (at t' X Y ≡ at t X Y) ⊎ ((X ≡ x) × (at a z Y < none) × (at t' X Y + d ≡ at a z Y))
      from X Y hx hy = elim (ℕ_discrete X x) [
        | yes e ↦ rw e (here Y hy)
        | no e ↦ inl (ap wide (g.rest X Y e (omega (arith, ready.few))))
      ]

pub not_fell : (n x z d : ℕ) (a t : List ℕ) → Capped t → FellBy n x z d a t t
not_fell n x z d a t c = record { capped = c; from = λ X Y hx hy. inl refl }

module _ (s w : List ℕ) (m n q : ℕ) (a t : List ℕ) (r : OnceReady s w m n a t) (below : q < m) where
  abbrev ready : SheetReady s w m n
  ready = r.judge.ready

  module _ {x : Row} {o : ℕ} {f : Fall} (e : x ≡ row_at s q) (ho : o ≡ x.over) (ef : f ≡ fall_of x (by w o)) {i j : ℕ} (hi : i ≡ f.from) (hj : j ≡ f.to) (pos : 0 < f.drop) where
    leads : SheetEdge s w m i j (Rounding.the_edge s w m n q ready below e ho ef pos).up (Rounding.the_edge s w m n q ready below e ho ef pos).down
    leads = Rounding.edge s w m n q ready below e ho ef hi hj pos

    h : (i < n) × (j < n)
    h = inside ready (omega arith) i j _ _ leads

    pub may_fall : LowerReady n i j f.drop a
    may_fall =
        record {
          capped = record { long = r.judge.filled.sound.long; most = r.judge.filled.sound.most };
          few = ready.few;
          row = h.0;
          other = h.1;
          enough = λ y l c. omega (arith, r.judge.filled.sound.least (j * side + y) (omega (arith, h.1, ready.few)), Rounding.small s w m n q ready below e ho ef pos);
        }

    pub fallen : {t' : List ℕ} → FellBy n i j f.drop a t t' → OnceDone s w m n a t t'
    fallen {t'} g = record { capped = g.capped; from = from }
      where
        from : (X Y : ℕ) → X < n → Y < n → (at t' X Y ≡ at t X Y) ⊎ Fallen (SheetEdge s w m) (at a) X Y (at t' X Y)
        from X Y hx hy =
            let k = Rounding.the_edge s w m n q ready below e ho ef pos in
            ⊎_elim (λ u. inl u)
            (λ u. inr (rw u.0 (record { by = j; up = k.up; down = k.down; edge = leads; below = omega (arith, k.below); there = u.1; weight = omega (arith, k.below, rw u.0 at u.2) })))
            (g.from X Y hx hy)

pub not_fallen : (s w : List ℕ) (m n : ℕ) (a t : List ℕ) → Capped t → OnceDone s w m n a t t
not_fallen s w m n a t c = record { capped = c; from = λ X Y hx hy. inl refl }

pub fallen_more : (s w : List ℕ) (m n : ℕ) (a t₀ t t' : List ℕ) → OnceDone s w m n a t₀ t → OnceDone s w m n a t t' → OnceDone s w m n a t₀ t'
fallen_more s w m n a t₀ t t' g d = record { capped = d.capped; from = from }
  where
    from : (X Y : ℕ) → X < n → Y < n → (at t' X Y ≡ at t₀ X Y) ⊎ Fallen (SheetEdge s w m) (at a) X Y (at t' X Y)
    from X Y hx hy = ⊎_elim (λ e. ⊎_elim (λ b. inl (e ∙ b)) (λ b. inr (rw e b)) (g.from X Y hx hy)) (λ e. inr e) (d.from X Y hx hy)

-- what the round leaves shows that the projection is good
pub shown_good : (s w : List ℕ) (m n : ℕ) (a r v : List ℕ) → JudgeReady s w m n a → (b : Bool) → not b ≡ false → Filled Rising s w m n r b → OnceDone s w m n a r v
    → FirstPair n (Kept (at a) (at v)) (Undercut (at a) (at v)) None → Good (SheetEdge s w m)
shown_good s w m n a r v j b hb fb d (no_pair kept) =
    let f = part_distances true refl j.filled in
    once_good (SheetEdge s w m) n (inside j.ready (omega arith)) (at a) (at r) (at v) (all_edges f.0) (rising_edges (part_distances b hb fb).0) d.from kept (all_consistent f.1)

-- so does the code's own test
pub shown_by : (s w : List ℕ) (m n : ℕ) (a r v : List ℕ) → JudgeReady s w m n a → (b : Bool) → not b ≡ false → Filled Rising s w m n r b → OnceDone s w m n a r v
    → (x : Option (ℕ × ℕ)) → FirstPair n (Kept (at a) (at v)) (Undercut (at a) (at v)) x → (z : Bool) → is_some x ≡ not z → z ≡ true → Good (SheetEdge s w m)
shown_by s w m n a r v j b hb fb d None f z k e = shown_good s w m n a r v j b hb fb d f
shown_by s w m n a r v j b hb fb d (Some p) f z k e = absurd (true≢false (k ∙ ap not e))
