-- Rounds over the negative edges of a sheet. Assumes nothing.
use mathlib.Core.Path.{◌≡◌, refl, sym, subst, ◌∙◌}
use mathlib.Core.Bool.{Bool, true, false}
use mathlib.Core.List.{List}
use Prim.Native.Nat.{ℕ, ◌+◌, ◌<◌, ◌≤◌}
use native.Mathlib.Omega.{arith}
use native.Mathlib.Decide.{ℕ_discrete}
use lib.Dec.{ltb}
use borrow.Author.Tests.{ltb-false}
use Rattle.plan.specs.Limits.{farthest}
use Rattle.tables.specs.Tables.{side}
use Rattle.tables.specs.Entries.{raw, at}
use Rattle.tables.proofs.Widths.{wide_in, wide_there}
use Rattle.tables.specs.Distances.{Inside}
use Rattle.rows.specs.Sheet.{SheetReady, SheetEdge, Laid, ordinary, there, back, wait, row_at, over_at, by}
use Rattle.rows.specs.declared.sheet.Row.{Row}
use Rattle.rows.proofs.Lays.{inside}
use Rattle.rounds.specs.declared.Fall.{Fall}
use Rattle.rounds.specs.Ways.{fall_of, LowerReady, LowerDone, Still, RoundReady, RowDone, Rounded, Settled, sum}
use Rattle.rounds.proofs.Easing.{not_far, eased_lower, eased_ways}
use Rattle.rounds.proofs.Lowering.{unchanged}
use Rattle.rounds.proofs.Falling.{Falls, fall_at, falls, only_fall}

-- no edge of a sheet is heavy
light : (s w : List ℕ) (m n q : ℕ) → SheetReady s w m n → q < m → {X Y u d : ℕ} → Laid s w q X Y u d → (u ≤ farthest) × (d ≤ farthest)
light s w m n q r h (ordinary k _ _ a b) = omega (arith, r.first q h (omega arith), r.second q h (omega arith))
light s w m n q r h (there k _ _ a b) = omega (arith, r.durations (over_at s q))
light s w m n q r h (back k _ _ a b) = omega (arith, r.durations (over_at s q))
light s w m n q r h (wait k _ _ a b) = omega (arith, r.durations (over_at s q))

-- ---- the negative edge of row q

module _ (s w : List ℕ) (m n q : ℕ) (ready : SheetReady s w m n) (below : q < m) where
  abbrev pub E : ℕ → ℕ → ℕ → ℕ → Type 0
  E = SheetEdge s w m

  pub in_plan : Inside E n
  in_plan = inside ready (omega arith)

  pub over_in : {x : Row} {o : ℕ} → x ≡ row_at s q → o ≡ x.over → o < side
  over_in e ho = rw (ho, e) (ready.over q below)

  module _ {x : Row} {o : ℕ} {f : Fall} (e : x ≡ row_at s q) (ho : o ≡ x.over) (ef : f ≡ fall_of x (by w o)) where
    pub is_fall : f ≡ fall_at s w q
    is_fall = rw (ef, ho, e) refl

    pub the_edge : 0 < f.drop → Falls s w q f
    the_edge pos = rw is_fall (falls s w q (rw is_fall at pos))

    pub small : 0 < f.drop → f.drop ≤ farthest
    small pos = omega (arith, (the_edge pos).below, light s w m n q ready below (the_edge pos).edge)

    pub edge : {i j : ℕ} → i ≡ f.from → j ≡ f.to → (pos : 0 < f.drop) → E i j (the_edge pos).up (the_edge pos).down
    edge hi hj pos = rw (hi, hj) (record { row = q; below = below; edge = (the_edge pos).edge })

module _ (s w : List ℕ) (m n q : ℕ) (t : List ℕ) (r : RoundReady s w m n t) (below : q < m) where
  module _ {x : Row} {o : ℕ} {f : Fall} (e : x ≡ row_at s q) (ho : o ≡ x.over) (ef : f ≡ fall_of x (by w o)) where
    module _ {i j : ℕ} (hi : i ≡ f.from) (hj : j ≡ f.to) (pos : 0 < f.drop) where
      abbrev falling : Falls s w q f
      falling = the_edge s w m n q r.ready below e ho ef pos

      leads : SheetEdge s w m i j falling.up falling.down
      leads = edge s w m n q r.ready below e ho ef hi hj pos

      h : (i < n) × (j < n)
      h = in_plan s w m n q r.ready below i j falling.up falling.down leads

      pub may_lower : LowerReady n i j f.drop t
      may_lower =
          record {
            capped = r.capped;
            few = r.ready.few;
            row = h.0;
            other = h.1;
            enough = λ y l c. omega (arith, wide_in (raw t j y) c, not_far (SheetEdge s w m) n (in_plan s w m n q r.ready below) r.ways j y h.1 l (wide_there (raw t j y) c), small s w m n q r.ready below e ho ef pos);
          }

      pub lowered : {t' : List ℕ} → LowerDone n i j f.drop t t' → RowDone s w m n q t t'
      lowered {t'} d = record {
        ready = record { ready = r.ready; capped = d.capped; ways = eased_ways (SheetEdge s w m) n (in_plan s w m n q r.ready below) d.eased h.0 h.1 leads falling.below pos r.ways };
        lower = eased_lower (SheetEdge s w m) n (in_plan s w m n q r.ready below) d.eased h.0;
        still = still;
        down = d.down;
      }
        where
          same_fall : f ≡ fall_at s w q
          same_fall = is_fall s w m n q r.ready below e ho ef

          still : Still (Laid s w q) n (at t) (at t')
          still X Z u d₁ y l neg hy fin =
              let k = only_fall s w q l neg in
              let x≡ : X ≡ i = k.0 ∙ sym (rw same_fall at hi) in
              let z≡ : Z ≡ j = k.1 ∙ sym (rw same_fall at hj) in
              let via = (d.eased.cell y hy).via (rw z≡ at fin) in
              let same : f.drop ≡ (fall_at s w q).drop = rw same_fall refl in
              rw (x≡, z≡) (omega (arith, via, k.2, same))

    pub no_fall : f.drop ≤ 0 → RowDone s w m n q t t
    no_fall none = record {
      ready = r;
      lower = λ X Y hx hy. omega arith;
      still = λ X Z u d y l neg hy fin. absurd (omega (arith, (only_fall s w q l neg).2, rw (is_fall s w m n q r.ready below e ho ef) at none));
      down = λ y l. omega arith;
    }

-- ---- one round

module _ (s w : List ℕ) (m n q : ℕ) (t₀ t t' : List ℕ) (g : Rounded s w m n q t₀ t) (h : q < m) (d : RowDone s w m n q t t') where
  points : {X Y u v : ℕ} → SheetEdge s w (q + 1) X Y u v → (X < n) × (Y < n)
  points {X} {Y} {u} {v} e = inside g.ready.ready (omega arith) X Y u v e

  pub round_turn : Rounded s w m n (q + 1) t₀ t'
  round_turn = record { ready = d.ready; lower = λ X Y hx hy. omega (arith, d.lower X Y hx hy, g.lower X Y hx hy); still = still; down = λ p l. omega (arith, d.down p l, g.down p l) }
    where
      still : Still (SheetEdge s w (q + 1)) n (at t₀) (at t')
      still X Z u v j e neg hj fin =
          let p = points e in
          elim (ℕ_discrete e.row q) [
            | yes k ↦ omega (arith, g.lower Z j p.1 hj, d.still X Z u v j (subst (λ (i : ℕ). Laid s w i X Z u v) k e.edge) neg hj (omega (arith, g.lower Z j p.1 hj)))
            | no k ↦ omega (arith, d.lower X j p.0 hj, g.still X Z u v j (record { row = e.row; below = omega (arith, e.below); edge = e.edge }) neg hj fin)
          ]

-- ---- rounds until nothing falls

pub record Settling (s w : List ℕ) (m n : ℕ) (t : List ℕ) (before : ℕ) (more : Bool) : Type 0 where
  pub ready : RoundReady s w m n t
  pub total : before ≡ sum t
  pub still : more ≡ false → Still (SheetEdge s w m) n (at t) (at t)

-- what is left to fall
abbrev pub left : Bool → ℕ → ℕ
left true all = all + 1
left false all = 0

pub settle_turn : (s w : List ℕ) (m n : ℕ) (t t' : List ℕ) (before after : ℕ) (more : Bool) → Settling s w m n t before more → Rounded s w m n m t t' → after ≡ sum t' → Settling s w m n t' after (ltb after before)
settle_turn s w m n t t' before after more c g e = record { ready = g.ready; total = e; still = still }
  where
    still : ltb after before ≡ false → Still (SheetEdge s w m) n (at t') (at t')
    still k =
        let same : t' ≡ t = unchanged t t' c.ready.capped g.ready.capped g.down (omega (arith, ltb-false after before k, c.total, e)) in
        let l : Still (SheetEdge s w m) n (at t) (at t) = rw same at g.still in
        rw same l

pub settled : (s w : List ℕ) (m n : ℕ) (t : List ℕ) (before : ℕ) (b : Bool) → b ≡ false → Settling s w m n t before b → Settled s w m n t
settled s w m n t before b e g = record { least = record { ways = g.ready.ways; still = g.still e } }
