-- The edges of a sheet's rows as steps, and the sums of steps. Assumes nothing.
use mathlib.Core.Path.{◌≡◌, refl, sym, ◌∙◌}
use mathlib.Core.Bool.{Bool, true, false}
use mathlib.Core.List.{List, [], ◌∷◌, ◌++◌}
use Prim.Native.Nat.{ℕ, zero, suc, min, ◌+◌, ◌*◌, ◌/◌, ◌%◌, ◌<◌, ◌≤◌}
use native.Mathlib.Omega.{arith}
use native.Mathlib.Decide.{ℕ_discrete}
use lib.Dec.{eqb, ltb}
use borrow.Author.Tests.{ne_eqb, ltb-true}
use Rattle.numbers.specs.Fits.{All}
use Rattle.plan.specs.Limits.{farthest}
use Rattle.rows.specs.declared.sheet.Row.{Row}
use Rattle.rows.specs.Sheet.{row_at, by, kind_at, from_at, to_at, first_at, second_at, over_at, Laid, ordinary, there, back, wait, SheetReady}
use Rattle.ways.specs.declared.steps.Step.{Step}
use Rattle.ways.specs.Steps.{Leads, ups, downs, step_of, step_at, is_edge, StepIn}

abbrev pub step_as : ℕ → ℕ → ℕ → ℕ → ℕ → Step
step_as q X Y u d = record { row = q; from = X; to = Y; up = u; down = d }

-- ---- the edge of a row, by its kind
module _ (r : Row) (q p : ℕ) (b : Bool) {f g : ℕ} (ef : f ≡ r.from) (eg : g ≡ r.to) where
  pub step_ordinary : r.kind ≡ 3 → step_as q f g r.first r.second ≡ step_of r q p b
  unfolding step_of
  step_ordinary k = rw (ef, eg, k) refl

  pub step_wait : r.kind ≡ 4 → {d : ℕ} → d ≡ min r.first p → step_as q f g 0 d ≡ step_of r q p b
  unfolding step_of
  step_wait k e = rw (ef, eg, k, e) refl

  pub step_back : (r.kind ≡ 3 → ⊥) → (r.kind ≡ 4 → ⊥) → b ≡ true → step_as q g f 0 p ≡ step_of r q p b
  unfolding step_of
  step_back m n e = rw (ef, eg, ne_eqb r.kind 3 m, ne_eqb r.kind 4 n, e) refl

  pub step_there : (r.kind ≡ 3 → ⊥) → (r.kind ≡ 4 → ⊥) → b ≡ false → step_as q f g p 0 ≡ step_of r q p b
  unfolding step_of
  step_there m n e = rw (ef, eg, ne_eqb r.kind 3 m, ne_eqb r.kind 4 n, e) refl

-- a kind that has edges
pub kinds : (k : ℕ) → is_edge k ≡ true → (1 < k) × (k < 5)
kinds zero e = absurd (let z : ◌≡◌ {A = Bool} false true = e in let y : ◌≡◌ {A = ℕ} 0 1 = cc in omega arith)
kinds (suc k) e = go (ltb 1 (suc k)) refl (ltb (suc k) 5) refl
  where
    go : (a : Bool) → ltb 1 (suc k) ≡ a → (b : Bool) → ltb (suc k) 5 ≡ b → (1 < suc k) × (suc k < 5)
    go true f true g = (ltb-true 1 (suc k) f, ltb-true (suc k) 5 g)
    go true f false g = absurd (let z : false ≡ true = rw (f, g) at e in let y : ◌≡◌ {A = ℕ} 0 1 = cc in omega arith)
    go false f b g = absurd (let z : false ≡ true = rw f at e in let y : ◌≡◌ {A = ℕ} 0 1 = cc in omega arith)

-- ---- the edges of a sheet

module _ (s w : List ℕ) (k : ℕ) where
  abbrev q : ℕ
  q = k / 2

  -- edge k is an edge of its row
  pub step_laid : is_edge (kind_at s (k / 2)) ≡ true → Laid s w (step_at s w k).row (step_at s w k).from (step_at s w k).to (step_at s w k).up (step_at s w k).down
  step_laid e =
      let h = kinds (kind_at s (k / 2)) e in
      elim (ℕ_discrete (kind_at s (k / 2)) 3) [
        | yes i ↦ rw (← step_ordinary (row_at s (k / 2)) (k / 2) (by w (over_at s (k / 2))) (eqb (k % 2) 1) refl refl i) (ordinary i refl refl refl refl)
        | no i ↦ elim (ℕ_discrete (kind_at s (k / 2)) 4) [
          | yes j ↦ rw (← step_wait (row_at s (k / 2)) (k / 2) (by w (over_at s (k / 2))) (eqb (k % 2) 1) refl refl j refl) (wait j refl refl refl refl)
          | no j ↦ of_link (eqb (k % 2) 1) refl i j (omega arith)
        ]
      ]
    where
      of_link : (b : Bool) → eqb (k % 2) 1 ≡ b → (kind_at s (k / 2) ≡ 3 → ⊥) → (kind_at s (k / 2) ≡ 4 → ⊥) → kind_at s (k / 2) ≡ 2
          → Laid s w (step_at s w k).row (step_at s w k).from (step_at s w k).to (step_at s w k).up (step_at s w k).down
      of_link true f i j l = rw (← step_back (row_at s (k / 2)) (k / 2) (by w (over_at s (k / 2))) (eqb (k % 2) 1) refl refl i j f) (back l refl refl refl refl)
      of_link false f i j l = rw (← step_there (row_at s (k / 2)) (k / 2) (by w (over_at s (k / 2))) (eqb (k % 2) 1) refl refl i j f) (there l refl refl refl refl)

  -- it names its row
  pub step_row : (step_at s w k).row ≡ k / 2
  step_row = elim (ℕ_discrete (kind_at s (k / 2)) 3) [
    | yes i ↦ rw (← step_ordinary (row_at s (k / 2)) (k / 2) (by w (over_at s (k / 2))) (eqb (k % 2) 1) refl refl i) refl
    | no i ↦ elim (ℕ_discrete (kind_at s (k / 2)) 4) [
      | yes j ↦ rw (← step_wait (row_at s (k / 2)) (k / 2) (by w (over_at s (k / 2))) (eqb (k % 2) 1) refl refl j refl) refl
      | no j ↦ of_link (eqb (k % 2) 1) refl i j
    ]
  ]
    where
      of_link : (b : Bool) → eqb (k % 2) 1 ≡ b → (kind_at s (k / 2) ≡ 3 → ⊥) → (kind_at s (k / 2) ≡ 4 → ⊥) → (step_at s w k).row ≡ k / 2
      of_link true f i j = rw (← step_back (row_at s (k / 2)) (k / 2) (by w (over_at s (k / 2))) (eqb (k % 2) 1) refl refl i j f) refl
      of_link false f i j = rw (← step_there (row_at s (k / 2)) (k / 2) (by w (over_at s (k / 2))) (eqb (k % 2) 1) refl refl i j f) refl

-- an edge by its number
pub record Numbered (s w : List ℕ) (q X Y u d : ℕ) : Type 0 where
  pub k : ℕ
  pub row : k / 2 ≡ q
  pub is : step_at s w k ≡ step_as q X Y u d
  pub some : is_edge (kind_at s q) ≡ true

-- every edge of a row has a number
module _ (s w : List ℕ) (q : ℕ) where
  abbrev p : ℕ
  p = by w (over_at s q)

  even : (2 * q) / 2 ≡ q
  even = omega arith

  odd : (2 * q + 1) / 2 ≡ q
  odd = omega arith

  first_of : step_at s w (2 * q) ≡ step_of (row_at s q) q (by w (over_at s q)) false
  first_of = let a : (2 * q) % 2 ≡ 0 = omega arith in rw (even, a) refl

  second_of : step_at s w (2 * q + 1) ≡ step_of (row_at s q) q (by w (over_at s q)) true
  second_of = let a : (2 * q + 1) % 2 ≡ 1 = omega arith in rw (odd, a) refl

  pub at_ordinary : kind_at s q ≡ 3 → step_at s w (2 * q) ≡ step_as q (from_at s q) (to_at s q) (first_at s q) (second_at s q)
  at_ordinary k = first_of ∙ sym (step_ordinary (row_at s q) q (by w (over_at s q)) false refl refl k)

  pub at_wait : kind_at s q ≡ 4 → step_at s w (2 * q) ≡ step_as q (from_at s q) (to_at s q) 0 (min (first_at s q) (by w (over_at s q)))
  at_wait k = first_of ∙ sym (step_wait (row_at s q) q (by w (over_at s q)) false refl refl k refl)

  pub at_there : kind_at s q ≡ 2 → step_at s w (2 * q) ≡ step_as q (from_at s q) (to_at s q) (by w (over_at s q)) 0
  at_there k = first_of ∙ sym (step_there (row_at s q) q (by w (over_at s q)) false refl refl (λ e. omega arith) (λ e. omega arith) refl)

  pub at_back : kind_at s q ≡ 2 → step_at s w (2 * q + 1) ≡ step_as q (to_at s q) (from_at s q) 0 (by w (over_at s q))
  at_back k = second_of ∙ sym (step_back (row_at s q) q (by w (over_at s q)) true refl refl (λ e. omega arith) (λ e. omega arith) refl)

  pub numbered : {X Y u d : ℕ} → Laid s w q X Y u d → Numbered s w q X Y u d
  numbered (ordinary k a b f g) = record { k = 2 * q; row = even; is = rw (a, b, f, g) (at_ordinary k); some = rw k refl }
  numbered (wait k a b f g) = record { k = 2 * q; row = even; is = rw (a, b, f, g) (at_wait k); some = rw k refl }
  numbered (there k a b f g) = record { k = 2 * q; row = even; is = rw (a, b, f, g) (at_there k); some = rw k refl }
  numbered (back k a b f g) = record { k = 2 * q + 1; row = odd; is = rw (a, b, f, g) (at_back k); some = rw k refl }

-- an edge is between points, and of no large length
pub laid_fits : {s w : List ℕ} {m n q X Y u d : ℕ} → SheetReady s w m n → q < m → Laid s w q X Y u d → (X < n) × (Y < n) × (u ≤ farthest) × (d ≤ farthest)
laid_fits {q = q} o h (ordinary k a b f g) = omega (arith, o.from q h (omega arith), o.to q h (omega arith), o.first q h (omega arith), o.second q h (omega arith))
laid_fits {s = s} {q = q} o h (there k a b f g) = omega (arith, o.from q h (omega arith), o.to q h (omega arith), o.durations (over_at s q))
laid_fits {s = s} {q = q} o h (back k a b f g) = omega (arith, o.from q h (omega arith), o.to q h (omega arith), o.durations (over_at s q))
laid_fits {s = s} {q = q} o h (wait k a b f g) = omega (arith, o.from q h (omega arith), o.to q h (omega arith), o.first q h (omega arith), o.durations (over_at s q))

pub step_fits : {s w : List ℕ} {m n : ℕ} → SheetReady s w m n → (k : ℕ) → k / 2 < m → is_edge (kind_at s (k / 2)) ≡ true → StepIn s w m (step_at s w k)
step_fits {s} {w} o k h e = record { below = omega (arith, step_row s w k); edge = step_laid s w k e }

-- ---- one step more

pub leads_more : (es : List Step) (e : Step) (X : ℕ) → Leads es X e.from → Leads (es ++ (e ∷ [])) X e.to
unfolding Leads
leads_more [] e X h = (h, refl)
leads_more (f ∷ es) e X h = (h.0, leads_more es e f.to h.1)

pub ups_more : (es : List Step) (e : Step) → ups (es ++ (e ∷ [])) ≡ ups es + e.up
unfolding ups
ups_more [] e = omega arith
ups_more (f ∷ es) e = omega (arith, ups_more es e)

pub downs_more : (es : List Step) (e : Step) → downs (es ++ (e ∷ [])) ≡ downs es + e.down
unfolding downs
downs_more [] e = omega arith
downs_more (f ∷ es) e = omega (arith, downs_more es e)

pub all_more : (P : Step → Type 0) (es : List Step) (e : Step) → All P es → P e → All P (es ++ (e ∷ []))
all_more P [] e a h = (h, tt)
all_more P (f ∷ es) e a h = (a.0, all_more P es e a.1 h)

pub all_over : (P Q : Step → Type 0) (es : List Step) → ((e : Step) → P e → Q e) → All P es → All Q es
all_over P Q [] f a = tt
all_over P Q (e ∷ es) f a = (f e a.0, all_over P Q es f a.1)
