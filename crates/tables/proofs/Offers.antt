-- A table that edges are offered to, one after the other. Assumes nothing.
use mathlib.Core.Path.{◌≡◌, refl, ap}
use mathlib.Core.Logic.{◌⊎◌, ◌≢◌, ⊎_elim}
use mathlib.Core.Bool.{Bool, true, false}
use mathlib.Core.List.{List}
use Prim.Native.Nat.{ℕ, ◌+◌, ◌*◌, ◌<◌, ◌≤◌}
use native.Mathlib.Omega.{arith}
use native.Mathlib.Decide.{ℕ_discrete}
use Rattle.network.specs.Walks.{nil, step}
use Rattle.network.proofs.Laws.{over}
use Rattle.plan.specs.Limits.{farthest}
use Rattle.tables.specs.declared.table.Part.{Part}
use Rattle.tables.specs.Tables.{Table, bias, none, side, Within}
use Rattle.tables.specs.Entries.{wide, at, Sound}
use Rattle.tables.specs.Distances.{Attained, Inside, Drawn}
use Rattle.tables.specs.Steps.{Offered, Offers, OfferedOf, takes_of, PartOf}

-- what an offer does that is made, and one that is not
pub made : {b : Bool} {i j u d : ℕ} {t t' : List ℕ} → b ≡ true → Offered i j u d t t' → OfferedOf b i j u d t t'
made e o = record { sound = o.sound; does = rw e o }

-- the edges E, and one more
pub data Plus (E : ℕ → ℕ → ℕ → ℕ → Type 0) (i j v c X Y u d : ℕ) : Type 0 where
  old : E X Y u d → Plus E i j v c X Y u d
  new : X ≡ i → Y ≡ j → u ≡ v → d ≡ c → Plus E i j v c X Y u d

-- edges that are the same either way
pub same : {E F : ℕ → ℕ → ℕ → ℕ → Type 0} {n : ℕ} {f : Table} → ((X Y u d : ℕ) → E X Y u d → F X Y u d) → ((X Y u d : ℕ) → F X Y u d → E X Y u d) → Drawn E n f → Drawn F n f
same to from d = record {
  self = d.self;
  edge = λ X Y u c e. d.edge X Y u c (from X Y u c e);
  real = λ X Y hx hy h. let a = d.real X Y hx hy h in record { up = a.up; down = a.down; walk = over to a.walk; weight = a.weight };
  within = d.within;
}

-- a table that is the same between n points
pub same_table : {E : ℕ → ℕ → ℕ → ℕ → Type 0} {n : ℕ} {f g : Table} → Inside E n → ((x y : ℕ) → x < n → y < n → g x y ≡ f x y) → Drawn E n f → Drawn E n g
same_table inside e d = record {
  self = λ X h. rw (e X X h h) (d.self X h);
  edge = λ X Y u c k. let h = inside X Y u c k in rw (e X Y h.0 h.1) (d.edge X Y u c k);
  real = λ X Y hx hy. rw (e X Y hx hy) (d.real X Y hx hy);
  within = λ X Y hx hy. rw (e X Y hx hy) (d.within X Y hx hy);
}

-- f' is f with the weight v − c offered at (i, j), between n points
pub record OfferedAt (n i j v c : ℕ) (f f' : Table) : Type 0 where
  pub low : f' i j ≤ f i j
  pub via : f' i j + c ≤ bias + v
  pub from : (f' i j ≡ f i j) ⊎ (f' i j + c ≡ bias + v)
  pub rest : (x y : ℕ) → x < n → y < n → ((x ≡ i) × (y ≡ j) → ⊥) → f' x y ≡ f x y

-- the same, if the offer is made
abbrev pub OffersAt : Bool → ℕ → ℕ → ℕ → ℕ → ℕ → Table → Table → Type 0
OffersAt true n i j v c f f' = OfferedAt n i j v c f f'
OffersAt false n i j v c f f' = (x y : ℕ) → x < n → y < n → f' x y ≡ f x y

-- an offer to a list of numbers is one to its table
pub at_place : {b : Bool} {n i j v c : ℕ} {t t' : List ℕ} → n ≤ side → i < n → j < n → OfferedOf b i j v c t t' → OffersAt b n i j v c (at t) (at t')
at_place {b} {n} {i} {j} {v} {c} {t} {t'} few hi hj o = go b o.does
  where
    go : (b : Bool) → Offers b i j v c t t' → OffersAt b n i j v c (at t) (at t')
    go true o = record { low = o.low; via = o.via; from = o.from; rest = λ x y hx hy h. ap wide (o.rest (x * side + y) (λ e. h (omega arith, omega arith))) }
    go false e = λ x y hx hy. rw e refl

module _ (E : ℕ → ℕ → ℕ → ℕ → Type 0) (n : ℕ) (f f' : Table) (dr : Drawn E n f) (inside : Inside E n) (i j v c : ℕ) (hi : i < n) (hj : j < n) (hv : v ≤ farthest) (hc : c ≤ farthest) (o : OfferedAt n i j v c f f') where
  -- what holds at the edge's place, and elsewhere of a table that is as it was, holds everywhere
  places : (P : ℕ → ℕ → ℕ → Type 0) → P i j (f' i j) → ((x y : ℕ) → x < n → y < n → P x y (f x y)) → (x y : ℕ) → x < n → y < n → P x y (f' x y)
  places P here there x y hx hy = elim (ℕ_discrete x i) [
    | yes e ↦ elim (ℕ_discrete y j) [
      | yes e' ↦ rw (e, e') here
      | no e' ↦ rw (o.rest x y hx hy (λ h. e' h.1)) (there x y hx hy)
    ]
    | no e ↦ rw (o.rest x y hx hy (λ h. e h.0)) (there x y hx hy)
  ]

  low : (x y : ℕ) → x < n → y < n → f' x y ≤ f x y
  low = places (λ x y a. a ≤ f x y) o.low (λ x y hx hy. omega arith)

  edge : (X Y u d : ℕ) → Plus E i j v c X Y u d → (f' X Y < none) × (f' X Y + d ≤ bias + u)
  edge X Y u d (old e) = let h = inside X Y u d e in omega (arith, dr.edge X Y u d e, low X Y h.0 h.1)
  edge X Y u d (new a b a' b') = rw (a, b, a', b') (omega (arith, o.via))

  within : Within farthest n f'
  within = places (λ x y a. a < none → (bias ≤ a + farthest) × (a ≤ bias + farthest)) here dr.within
    where
      here : f' i j < none → (bias ≤ f' i j + farthest) × (f' i j ≤ bias + farthest)
      here h = ⊎_elim (λ e. omega (arith, dr.within i j hi hj (omega arith))) (λ e. omega arith) o.from

  abbrev Real : ℕ → ℕ → ℕ → Type 0
  Real x y a = a < none → Attained (Plus E i j v c) x y a

  was : (x y : ℕ) → x < n → y < n → Real x y (f x y)
  was x y hx hy h =
      let a = dr.real x y hx hy h in
      record { up = a.up; down = a.down; walk = over (λ X Y u d e. old e) a.walk; weight = a.weight }

  real : (x y : ℕ) → x < n → y < n → Real x y (f' x y)
  real = places Real here was
    where
      here : Real i j (f' i j)
      here h = ⊎_elim
          (λ e. let k : Real i j (f' i j) = rw e (was i j hi hj) in k h)
          (λ e. record { up = v + 0; down = c + 0; walk = step (new refl refl refl refl) nil; weight = omega arith })
          o.from

  pub plus : Drawn (Plus E i j v c) n f'
  plus = record { self = λ X h. omega (arith, dr.self X h, low X X h h); edge = edge; real = real; within = within }

module _ (b : Part) (E : ℕ → ℕ → ℕ → ℕ → Type 0) (n : ℕ) (f f' : Table) (dr : Drawn (PartOf b E) n f) (inside : Inside E n) (i j v c : ℕ) (hi : i < n) (hj : j < n) (hv : v ≤ farthest) (hc : c ≤ farthest) where
  in_part : Inside (PartOf b E) n
  in_part X Y u d p = inside X Y u d p.edge

  -- the same for the edges of a part
  pub plus_part : (b' : Bool) → takes_of b v c ≡ b' → OffersAt b' n i j v c f f' → Drawn (PartOf b (Plus E i j v c)) n f'
  plus_part true e o = same to from (plus (PartOf b E) n f f' dr in_part i j v c hi hj hv hc o)
    where
      to : (X Y u d : ℕ) → Plus (PartOf b E) i j v c X Y u d → PartOf b (Plus E i j v c) X Y u d
      to X Y u d (old p) = record { edge = old p.edge; taken = p.taken }
      to X Y u d (new a a' g g') = record { edge = new a a' g g'; taken = rw (g, g') e }

      from : (X Y u d : ℕ) → PartOf b (Plus E i j v c) X Y u d → Plus (PartOf b E) i j v c X Y u d
      from X Y u d p = go p.edge
        where
          go : Plus E i j v c X Y u d → Plus (PartOf b E) i j v c X Y u d
          go (old e') = old (record { edge = e'; taken = p.taken })
          go (new a a' g g') = new a a' g g'
  plus_part false e o = same to from (same_table in_part o dr)
    where
      to : (X Y u d : ℕ) → PartOf b E X Y u d → PartOf b (Plus E i j v c) X Y u d
      to X Y u d p = record { edge = old p.edge; taken = p.taken }

      from : (X Y u d : ℕ) → PartOf b (Plus E i j v c) X Y u d → PartOf b E X Y u d
      from X Y u d p = go p.edge
        where
          go : Plus E i j v c X Y u d → PartOf b E X Y u d
          go (old e') = record { edge = e'; taken = p.taken }
          go (new a a' g g') =
              let k : takes_of b v c ≡ true = rw (g, g') at p.taken in
              let z : ◌≡◌ {A = ℕ} 0 1 = cc in
              absurd (omega arith)

-- a table without edges has none of them
pub record BegunAt (n : ℕ) (f : Table) : Type 0 where
  pub self : (x : ℕ) → x < n → f x x ≡ bias
  pub other : (x y : ℕ) → x < n → y < n → x ≢ y → f x y ≡ none

pub begun : (E : ℕ → ℕ → ℕ → ℕ → Type 0) (n : ℕ) (f : Table) → ((X Y u d : ℕ) → E X Y u d → ⊥) → BegunAt n f → Drawn E n f
begun E n f empty b = record { self = λ X h. omega (arith, b.self X h); edge = λ X Y u d e. absurd (empty X Y u d e); real = real; within = within }
  where
    real : (X Y : ℕ) → X < n → Y < n → f X Y < none → Attained E X Y (f X Y)
    real X Y hx hy h = elim (ℕ_discrete X Y) [
      | yes e ↦
          rw (← e)
          (record { up = 0; down = 0; walk = nil; weight = omega (arith, b.self X hx) })
      | no e ↦ absurd (omega (arith, b.other X Y hx hy e))
    ]

    within : Within farthest n f
    within X Y hx hy h = elim (ℕ_discrete X Y) [
      | yes e ↦ rw (← e) (omega (arith, b.self X hx))
      | no e ↦ absurd (omega (arith, b.other X Y hx hy e))
    ]
