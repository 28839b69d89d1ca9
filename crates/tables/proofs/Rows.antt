-- A pass in place, row by row. Assumes nothing.
use mathlib.Core.Path.{◌≡◌, refl, ◌∙◌}
use mathlib.Core.Logic.{◌⊎◌, ◌≢◌, inl, inr, ⊎_elim}
use mathlib.Core.List.{List}
use Prim.Native.Nat.{ℕ, ◌+◌, ◌-◌, ◌*◌, ◌<◌, ◌≤◌}
use native.Mathlib.Omega.{arith}
use native.Mathlib.Decide.{dec_lt, ℕ_discrete}
use lib.ListN.{length, get_or, set, replicate, length-set, length-replicate, get_or-replicate}
use lib.Seq.{get_or-set_same, get_or-set_other}
use Rattle.tables.specs.Tables.{side, room, Best}
use Rattle.tables.specs.Entries.{wide, middle, nowhere, floor, ceiling, low, high, far, raw, at, Lower, Lesser, Near, Sound, Lifted, RowBy, LiftedRow, RowReady, RowDone, StepReady, StepDone, PassReady, PassDone}
use Rattle.tables.proofs.Widths.{wide_best}

-- ---- a row made of another

pub record Making (R : ℕ → ℕ → Type 0) (n k : ℕ) (t : List ℕ) (j : ℕ) (l : List ℕ) : Type 0 where
  pub long : length l ≡ side
  pub within : j ≤ n
  pub few : n ≤ side
  pub each : (y : ℕ) → y < j → R (raw t k y) (get_or l y 0)
  pub past : (y : ℕ) → j ≤ y → y < side → get_or l y 0 ≡ far

module _ (R : ℕ → ℕ → Type 0) (n k : ℕ) (t : List ℕ) where
  pub make_start : n ≤ side → Making R n k t 0 (replicate side far)
  make_start few = record { long = length-replicate {A = ℕ} side far; within = omega arith; few = few; each = λ y h. absurd (omega arith); past = λ y h l. get_or-replicate {A = ℕ} side y far 0 l }

  pub make_turn : (j : ℕ) (l : List ℕ) (v : ℕ) → j < n → Making R n k t j l → R (raw t k j) v → Making R n k t (j + 1) (set l j v)
  make_turn j l v h g e = record { long = length-set l j v ∙ g.long; within = omega arith; few = g.few; each = each; past = λ y a b. get_or-set_other l j y v 0 (omega arith) ∙ g.past y (omega arith) b }
    where
      each : (y : ℕ) → y < j + 1 → R (raw t k y) (get_or (set l j v) y 0)
      each y a = elim (ℕ_discrete y j) [
        | yes d ↦ rw (d, get_or-set_same l j v 0 (omega (arith, g.long, g.few))) e
        | no d ↦ rw (get_or-set_other l j y v 0 d) (g.each y (omega arith))
      ]

  pub make_ended : (j : ℕ) (l : List ℕ) → n ≤ j → Making R n k t j l → RowBy R n k t l
  make_ended j l h g = record { long = g.long; each = λ y a. g.each y (omega arith); past = λ y a b. g.past y (omega (arith, g.within)) b }

-- each number by a relation that follows
pub row_by_as : {R S : ℕ → ℕ → Type 0} {n k : ℕ} {t l : List ℕ} → ((v r : ℕ) → R v r → S v r) → RowBy R n k t l → RowBy S n k t l
row_by_as w g = record { long = g.long; each = λ j h. w _ _ (g.each j h); past = g.past }

-- ---- one row

-- the row i before its entry j: t₀ is the table before the row
pub record InRow (i b : ℕ) (l t₀ : List ℕ) (j : ℕ) (t : List ℕ) : Type 0 where
  pub sound : Sound t
  pub within : j ≤ side
  pub done : (y : ℕ) → y < j → Lower (raw t₀ i y) b (get_or l y 0) (raw t i y)
  pub rest : (x y : ℕ) → y < side → (x ≢ i) ⊎ (j ≤ y) → raw t x y ≡ raw t₀ x y

pub row_start : (i b : ℕ) (l t : List ℕ) → Sound t → InRow i b l t 0 t
row_start i b l t s = record { sound = s; within = omega arith; done = λ y h. absurd (omega arith); rest = λ x y h d. refl }

-- a store within the bounds
pub stored : (t : List ℕ) (p r : ℕ) → p < room → Sound t → r ≤ nowhere → floor ≤ r → (r < nowhere → r ≤ ceiling) → Sound (set t p r)
stored t p r h s l f g = record { long = length-set t p r ∙ s.long; most = most; least = least; gap = gap }
  where
    gap : (q : ℕ) → q < room → get_or (set t p r) q 0 < nowhere → get_or (set t p r) q 0 ≤ ceiling
    gap q a = elim (ℕ_discrete q p) [
      | yes d ↦ rw (d, get_or-set_same t p r 0 (omega (arith, s.long))) g
      | no d ↦ rw (get_or-set_other t p q r 0 d) (s.gap q a)
    ]

    least : (q : ℕ) → q < room → floor ≤ get_or (set t p r) q 0
    least q a = elim (ℕ_discrete q p) [
      | yes d ↦ rw (d, get_or-set_same t p r 0 (omega (arith, s.long))) f
      | no d ↦ rw (get_or-set_other t p q r 0 d) (s.least q a)
    ]

    most : (q : ℕ) → q < room → get_or (set t p r) q 0 ≤ nowhere
    most q a =
        elim (ℕ_discrete q p) [
          | yes d ↦ rw (d, get_or-set_same t p r 0 (omega (arith, s.long))) l
          | no d ↦ rw (get_or-set_other t p q r 0 d) (s.most q a)
        ]

module _ (i b : ℕ) (l t₀ : List ℕ) (j : ℕ) (t : List ℕ) (ready : RowReady i b l t₀) (g : InRow i b l t₀ j t) where
  -- the two numbers of which the lesser is taken are small
  pub sums : j < side → (middle ≤ get_or l j 0 + b) × (get_or l j 0 + b ≤ far + high) × (raw t i j ≤ nowhere)
  sums h =
      let u = ready.second j h in
      let v = ready.first in
      let e = ready.row in
      (omega arith, omega arith, g.sound.most (i * side + j) (omega arith))

-- ---- the pass

-- by a lifted row the lower is the better
better : {a b c l r : ℕ} → a ≤ nowhere → (low ≤ b) × (b ≤ high) → Near c → Lifted c l → Lower a b l r → Best (wide a) (wide b) (wide c) (wide r)
better {a} {b} {c} {l} {r} m n k e d =
    elim (dec_lt c nowhere) [
      | yes h ↦
          let s = e.same h in
          let u = d.sum in
          let w = k h in
          wide_best a b c r d.old m (λ p q. (omega arith, omega arith)) (⊎_elim inl (λ f. inr (omega arith, h, omega arith, omega arith)) d.from)
      | no h ↦
          let s = e.gone (omega arith) in
          let u = d.sum in
          wide_best a b c r d.old m (λ p q. absurd (omega arith)) (⊎_elim inl (λ f. inl (omega (arith, d.old))) d.from)
    ]

-- the pass before row i; l is the lifted row k of t₀
pub record Rows (n k : ℕ) (l t₀ : List ℕ) (i : ℕ) (t : List ℕ) : Type 0 where
  pub sound : Sound t
  pub within : i ≤ n
  pub lifted : LiftedRow n k t₀ l
  pub done : (x y : ℕ) → x < i → y < n → Best (at t₀ x y) (at t₀ x k) (at t₀ k y) (at t x y)
  pub rest : (x y : ℕ) → i ≤ x → y < side → raw t x y ≡ raw t₀ x y

pub pass_start : (n k : ℕ) (l t : List ℕ) → Sound t → LiftedRow n k t l → Rows n k l t 0 t
pass_start n k l t s e = record { sound = s; within = omega arith; lifted = e; done = λ x y h a. absurd (omega arith); rest = λ x y h a. refl }

pub pass_ended : (n k i : ℕ) (l t₀ t : List ℕ) → n ≤ i → Rows n k l t₀ i t → PassDone n k t₀ t
pass_ended n k i l t₀ t h g = record { sound = g.sound; passed = record { cell = λ x y hx hy. g.done x y (omega arith) hy } }

module _ (n k : ℕ) (l t₀ : List ℕ) (i : ℕ) (t : List ℕ) (ready : PassReady n k t₀) (g : Rows n k l t₀ i t) (h : i < n) where
  few : n ≤ side
  few = ready.few

  hk : k < n
  hk = ready.pivot

  first : raw t i k ≡ raw t₀ i k
  first = g.rest i k (omega arith) (omega (arith, few, hk))

  near : raw t i k < nowhere → (low ≤ raw t i k) × (raw t i k ≤ high)
  near = rw first (ready.tame.column i h)

  second : (j : ℕ) → j < side → (low ≤ get_or l j 0) × (get_or l j 0 ≤ far)
  second j a = elim (dec_lt j n) [
    | yes hj ↦
        let e = g.lifted.each j hj in
        elim (dec_lt (raw t₀ k j) nowhere) [
          | yes d ↦ let u = ready.tame.row j hj d in let s = e.same d in (omega arith, omega arith)
          | no d ↦ let s = e.gone (omega arith) in (omega arith, omega arith)
        ]
    | no hj ↦ let s = g.lifted.past j (omega arith) a in (omega arith, omega arith)
  ]

  third : (j : ℕ) → j < side → (get_or l j 0 ≤ high) ⊎ (get_or l j 0 ≡ far)
  third j a = elim (dec_lt j n) [
    | yes hj ↦
        let e = g.lifted.each j hj in
        elim (dec_lt (raw t₀ k j) nowhere) [
          | yes d ↦ let u = ready.tame.row j hj d in let s = e.same d in inl (omega arith)
          | no d ↦ inr (e.gone (omega arith))
        ]
    | no hj ↦ inr (g.lifted.past j (omega arith) a)
  ]

  pub step_ready : StepReady i k l t
  step_ready = record { sound = g.sound; row = omega (arith, few); pivot = omega (arith, few, hk); wide_row = g.lifted.long; first = near; second = second; third = third }

  row_made : (t' : List ℕ) → raw t i k < nowhere → RowDone i (raw t i k) l t t' → Rows n k l t₀ (i + 1) t'
  row_made t' c d = record { sound = d.sound; within = omega arith; lifted = g.lifted; done = done; rest = λ x y a u. d.rest x y (omega arith) u ∙ g.rest x y (omega arith) u }
    where
      cell : (y : ℕ) → y < n → Best (at t₀ i y) (at t₀ i k) (at t₀ k y) (at t' i y)
      cell y a =
          let w : y < side = omega (arith, few) in
          let s = g.rest i y (omega arith) w in
          let m = ready.sound.most (i * side + y) (omega (arith, few)) in
          rw (← first) (better m (near c) (ready.tame.row y a) (g.lifted.each y a) (rw s at (d.cell y w)))

      done : (x y : ℕ) → x < i + 1 → y < n → Best (at t₀ x y) (at t₀ x k) (at t₀ k y) (at t' x y)
      done x y a u = elim (ℕ_discrete x i) [
        | yes e ↦ rw e (cell y u)
        | no e ↦ rw (d.rest x y e (omega (arith, few))) (g.done x y (omega arith) u)
      ]

  -- a row with no way to the pivot
  row_skipped : nowhere ≤ raw t i k → Rows n k l t₀ (i + 1) t
  row_skipped c = record { sound = g.sound; within = omega arith; lifted = g.lifted; done = done; rest = λ x y a u. g.rest x y (omega arith) u }
    where
      done : (x y : ℕ) → x < i + 1 → y < n → Best (at t₀ x y) (at t₀ x k) (at t₀ k y) (at t x y)
      done x y a u = elim (ℕ_discrete x i) [
        | yes e ↦
            let f = first in
            let s = g.rest i y (omega arith) (omega (arith, few)) in
            rw (e, s) (wide_best (raw t₀ i y) (raw t₀ i k) (raw t₀ k y) (raw t₀ i y) (omega arith) (ready.sound.most (i * side + y) (omega (arith, few))) (λ p q. absurd (omega arith)) (inl refl))
        | no e ↦ g.done x y (omega arith) u
      ]

  pub pass_turn : (t' : List ℕ) → StepDone i k l t t' → Rows n k l t₀ (i + 1) t'
  pass_turn t' d = elim (dec_lt (raw t i k) nowhere) [ yes c ↦ row_made t' c (d.made c) | no c ↦ rw (d.skipped (omega arith)) (row_skipped (omega arith)) ]
