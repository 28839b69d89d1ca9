-- Laws of walks over any edges. Assumes nothing.
use Prim.Native.Nat.{ℕ, ◌+◌, ◌≤◌}
use native.Mathlib.Omega.{arith}
use native.Mathlib.Nat.{zero-add, add_assoc}
use Rattle.network.specs.Walks.{Walk, nil, step, Negative, NonNegative, Vee, vee}
use Rattle.network.specs.Passing.{Joined, Cycle, Consistent, Shortest, Fine, Bad, Dispatchable, Good}

module _ (E : ℕ → ℕ → ℕ → ℕ → Type 0) where
  -- two walks, one after the other
  pub append : {X Z Y u d u' d' : ℕ} → Walk E X Z u d → Walk E Z Y u' d' → Walk E X Y (u + u') (d + d')
  append nil w = simp zero-add w
  append (step e v) w = simp add_assoc (step e (append v w))

-- a walk over some edges is one over any relation that has them
pub over : {E F : ℕ → ℕ → ℕ → ℕ → Type 0} → ((X Y u d : ℕ) → E X Y u d → F X Y u d) → {X Y u d : ℕ} → Walk E X Y u d → Walk F X Y u d
over f nil = nil
over f (step e w) = step (f _ _ _ _ e) (over f w)

module _ (E : ℕ → ℕ → ℕ → ℕ → Type 0) where
  pub falling : {X Y u d : ℕ} → Walk (Negative E) X Y u d → Walk E X Y u d
  falling w = over (λ X Y u d e. e.edge) w

  pub rising : {X Y u d : ℕ} → Walk (NonNegative E) X Y u d → Walk E X Y u d
  rising w = over (λ X Y u d e. e.edge) w

  pub vee_walk : {X Y u d : ℕ} → Vee E X Y u d → Walk E X Y u d
  vee_walk (vee v w) = append E (falling v) (rising w)

  -- a cycle of negative sum is not consistent
  pub not_both : Consistent E → Cycle E → ⊥
  not_both c z = omega (arith, c.round z.walk, z.below)

  -- a pair is not both fine and bad
  pub not_fine : {X Y : ℕ} → Fine E X Y → Bad E X Y → ⊥
  not_fine f b = b.none (f b.joined)

  -- for each walk a walk of negative edges and then non-negative ones that is no heavier
  pub record Lighter (X Y u d : ℕ) : Type 0 where
    pub up : ℕ
    pub down : ℕ
    pub walk : Vee E X Y up down
    pub less : up + d ≤ u + down

  pub lighter : Dispatchable E → {X Y u d : ℕ} → Walk E X Y u d → Lighter X Y u d
  lighter h w =
      let s = h.best _ _ (record { up = _; down = _; walk = w }) in
      record { up = s.up; down = s.down; walk = s.walk; less = s.least w }
