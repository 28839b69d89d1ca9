-- A network and the network of its distances: an edge for each pair of different points that a walk joins, with the least weight.
-- It has the same distances, keeps the same minutes and passes. Over any edges between n points without a cycle of negative sum.
-- Assumes nothing.
use mathlib.Core.Path.{◌≡◌, refl, sym, subst}
use Prim.Native.Nat.{ℕ, ◌+◌, ◌-◌, ◌<◌, ◌≤◌}
use native.Mathlib.Omega.{arith}
use native.Mathlib.Decide.{ℕ_discrete, dec_lt}
use Rattle.network.specs.Walks.{Walk, nil, step, vee}
use Rattle.network.specs.Passing.{Consistent, Shortest, Fine, Good}
use Rattle.network.proofs.Laws.{append}
use Rattle.tables.specs.Tables.{Table, bias, none}
use Rattle.tables.specs.Distances.{Inside, Distances}
use Rattle.projection.proofs.Laws.{ends, fine_outside}

-- Two tables of the same distances agree, where neither has an entry past none.
pub same_entry : {E : ℕ → ℕ → ℕ → ℕ → Type 0} {n : ℕ} {f g : Table} → Distances E n f → Distances E n g → (X Y : ℕ) → X < n → Y < n
    → f X Y ≤ none → g X Y ≤ none → f X Y ≡ g X Y
same_entry {E} {n} {f} {g} D F X Y hx hy cf cg = elim (dec_lt (f X Y) none) [
  | yes l ↦
      let a = D.real X Y hx hy l in
      let m = F.least X Y a.up a.down hx a.walk in
      let b = F.real X Y hx hy m.0 in
      omega (arith, a.weight, m.1, b.weight, (D.least X Y b.up b.down hx b.walk).1)
  | no l ↦ elim (dec_lt (g X Y) none) [
    | yes m ↦ let b = F.real X Y hx hy m in absurd (omega (arith, (D.least X Y b.up b.down hx b.walk).0))
    | no m ↦ omega arith
  ]
]

-- the minutes g keep each edge
abbrev pub Keeps : (ℕ → ℕ) → (ℕ → ℕ → ℕ → ℕ → Type 0) → Type 0
Keeps g E = (X Y u d : ℕ) → E X Y u d → g Y + d ≤ g X + u

-- minutes that keep each edge keep each walk
keeps_walk : {E : ℕ → ℕ → ℕ → ℕ → Type 0} (g : ℕ → ℕ) → Keeps g E → {X Y u d : ℕ} → Walk E X Y u d → g Y + d ≤ g X + u
keeps_walk g k nil = omega arith
keeps_walk g k (step e w) = omega (arith, k _ _ _ _ e, keeps_walk g k w)

-- an edge of the distances f between n points
pub record Made (n : ℕ) (f : Table) (X Y u d : ℕ) : Type 0 where
  pub from : X < n
  pub to : Y < n
  pub apart : X ≡ Y → ⊥
  pub joined : f X Y < none
  pub up : u ≡ f X Y - bias
  pub down : d ≡ bias - f X Y

pub made_inside : (n : ℕ) (f : Table) → Inside (Made n f) n
made_inside n f X Y u d e = (e.from, e.to)

module _ {E : ℕ → ℕ → ℕ → ℕ → Type 0} {n : ℕ} {f : Table} (D : Distances E n f) (c : Consistent E) where
  -- for each walk over the distances one over the edges, of the same weight
  record Same (X Y u d : ℕ) : Type 0 where
    up' : ℕ
    down' : ℕ
    walk : Walk E X Y up' down'
    weight : up' + d ≡ u + down'

  underlying : {X Y u d : ℕ} → Walk (Made n f) X Y u d → Same X Y u d
  underlying nil = record { up' = 0; down' = 0; walk = nil; weight = refl }
  underlying (step e w) =
      let a = D.real _ _ e.from e.to e.joined in
      let b = underlying w in
      record { up' = a.up + b.up'; down' = a.down + b.down'; walk = append E a.walk b.walk; weight = omega (arith, e.up, e.down, a.weight, b.weight) }

  pub made_consistent : Consistent (Made n f)
  made_consistent = record { round = λ w. let a = underlying w in omega (arith, a.weight, c.round a.walk) }

  -- a point is at 0 from itself
  at_itself : (X : ℕ) → X < n → f X X ≡ bias
  at_itself X h =
      let l = D.least X X 0 0 h nil in
      let a = D.real X X h h l.0 in
      omega (arith, l.1, a.weight, c.round a.walk)

  the_edge : (X Y : ℕ) → X < n → Y < n → (X ≡ Y → ⊥) → f X Y < none → Made n f X Y (f X Y - bias) (bias - f X Y)
  the_edge X Y hx hy x h = record { from = hx; to = hy; apart = x; joined = h; up = refl; down = refl }

  -- Its distances are the same.
  pub made_distances : Distances (Made n f) n f
  made_distances = record {
    least = λ X Y u d h w. let a = underlying w in let l = D.least X Y a.up' a.down' h a.walk in (l.0, omega (arith, l.1, a.weight));
    real = λ X Y hx hy h. elim (ℕ_discrete X Y) [
      | yes e ↦ rw (← e) (record { up = 0; down = 0; walk = nil; weight = omega (arith, at_itself X hx) })
      | no e ↦ record { up = f X Y - bias + 0; down = bias - f X Y + 0; walk = step (the_edge X Y hx hy e h) nil; weight = omega arith }
    ];
  }

  -- It passes: one edge is a shortest walk.
  one_edge : (X Y u d : ℕ) → Made n f X Y u d → Shortest (Made n f) X Y
  one_edge X Y u d e = elim (dec_lt u d) [
    | yes l ↦ record {
      up = u + 0 + 0;
      down = d + 0 + 0;
      walk = vee (step (record { edge = e; below = l }) nil) nil;
      least = λ {u = u'} {d = d'} w. omega (arith, (made_distances.least X Y u' d' e.from w).1, e.up, e.down);
    }
    | no l ↦ record {
      up = 0 + (u + 0);
      down = 0 + (d + 0);
      walk = vee nil (step (record { edge = e; above = omega arith }) nil);
      least = λ {u = u'} {d = d'} w. omega (arith, (made_distances.least X Y u' d' e.from w).1, e.up, e.down);
    }
  ]

  fine : (X Y : ℕ) → Fine (Made n f) X Y
  fine X Y j = elim (dec_lt X n) [
    | yes h ↦ elim (ℕ_discrete X Y) [
      | yes e ↦ subst (λ (Z : ℕ). Shortest (Made n f) X Z) e (record { up = 0; down = 0; walk = vee nil nil; least = λ w. omega (arith, made_consistent.round w) })
      | no e ↦
          let l = made_distances.least X Y j.up j.down h j.walk in
          one_edge X Y _ _ (the_edge X Y h (ends (Made n f) n (made_inside n f) h j.walk) e l.0)
    ]
    | no h ↦ fine_outside (Made n f) n (made_inside n f) h j
  ]

  pub made_good : Good (Made n f)
  made_good = record { consistent = made_consistent; dispatchable = record { best = fine } }

  -- The same minutes keep it.
  pub kept_made : (g : ℕ → ℕ) → Keeps g E → Keeps g (Made n f)
  kept_made g k X Y u d e = let a = D.real X Y e.from e.to e.joined in omega (arith, keeps_walk g k a.walk, a.weight, e.up, e.down)

  pub made_kept : (g : ℕ → ℕ) → Inside E n → Keeps g (Made n f) → Keeps g E
  made_kept g inside k X Y u d e =
      let i = inside X Y u d e in
      let l = D.least X Y (u + 0) (d + 0) i.0 (step e nil) in
      elim (ℕ_discrete X Y) [
        | yes x ↦ rw (← x) (omega (arith, c.round (step (subst (λ (Z : ℕ). E X Z u d) (sym x) e) nil)))
        | no x ↦ omega (arith, k X Y _ _ (the_edge X Y i.0 i.1 x l.0), l.1)
      ]
