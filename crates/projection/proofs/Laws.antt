-- Edges between the points of a plan, and edges that are the same either way. Assumes nothing.
use mathlib.Core.Path.{◌≡◌, refl, subst}
use Prim.Native.Nat.{ℕ, ◌<◌}
use native.Mathlib.Omega.{arith}
use Rattle.network.specs.Walks.{Walk, nil, step, Vee, vee}
use Rattle.network.specs.Passing.{Joined, Cycle, Consistent, Shortest, Fine, Good}
use Rattle.network.proofs.Laws.{over}
use Rattle.tables.specs.Tables.{Table}
use Rattle.tables.specs.Distances.{Inside, Distances}
pub use Rattle.rounds.proofs.Easing.{ends}
use Rattle.projection.specs.Judging.{FirstBad}

-- edges that are the same either way have the same distances
pub same_distances : {E F : ℕ → ℕ → ℕ → ℕ → Type 0} {n : ℕ} {f : Table} → ((X Y u d : ℕ) → E X Y u d → F X Y u d) → ((X Y u d : ℕ) → F X Y u d → E X Y u d) → Distances E n f → Distances F n f
same_distances to from s = record {
  least = λ X Y u d h w. s.least X Y u d h (over from w);
  real = λ X Y hx hy h. let a = s.real X Y hx hy h in record { up = a.up; down = a.down; walk = over to a.walk; weight = a.weight };
}

module _ (E : ℕ → ℕ → ℕ → ℕ → Type 0) (n : ℕ) (inside : Inside E n) where
  -- from a point that is not of the plan there is no edge
  outside : {X Y u d : ℕ} → (X < n → ⊥) → Walk E X Y u d → (X ≡ Y) × (u ≡ 0) × (d ≡ 0)
  outside h nil = (refl, refl, refl)
  outside h (step e w) = absurd (h (inside _ _ _ _ e).0)

  pub fine_outside : {X Y : ℕ} → (X < n → ⊥) → Fine E X Y
  fine_outside {X} {Y} h j = subst (λ (Z : ℕ). Shortest E X Z) (outside h j.walk).0 (record { up = 0; down = 0; walk = vee nil nil; least = λ w. omega (arith, outside h w) })

-- edges that are the same either way have the same cycles, and the same pairs are fine and bad
module _ {E F : ℕ → ℕ → ℕ → ℕ → Type 0} (to : (X Y u d : ℕ) → E X Y u d → F X Y u d) (from : (X Y u d : ℕ) → F X Y u d → E X Y u d) where
  vee_over : {X Y u d : ℕ} → Vee E X Y u d → Vee F X Y u d
  vee_over (vee w w') = vee (over (λ X Y u d e. record { edge = to X Y u d e.edge; below = e.below }) w) (over (λ X Y u d e. record { edge = to X Y u d e.edge; above = e.above }) w')

  pub same_cycle : Cycle E → Cycle F
  same_cycle c = record { at = c.at; up = c.up; down = c.down; walk = over to c.walk; below = c.below }

  pub same_consistent : Consistent E → Consistent F
  same_consistent c = record { round = λ w. c.round (over from w) }

  same_joined : {X Y : ℕ} → Joined E X Y → Joined F X Y
  same_joined j = record { up = j.up; down = j.down; walk = over to j.walk }

  pub same_shortest : {X Y : ℕ} → Shortest E X Y → Shortest F X Y
  same_shortest s = record { up = s.up; down = s.down; walk = vee_over s.walk; least = λ w. s.least (over from w) }

  pub same_fine : {X Y : ℕ} → Fine E X Y → Fine F X Y
  same_fine f j = same_shortest (f (record { up = j.up; down = j.down; walk = over from j.walk }))

  pub same_good : Good E → Good F
  same_good g = record { consistent = same_consistent g.consistent; dispatchable = record { best = λ X Y. same_fine (g.dispatchable.best X Y) } }

pub same_bad : {E F : ℕ → ℕ → ℕ → ℕ → Type 0} → ((X Y u d : ℕ) → E X Y u d → F X Y u d) → ((X Y u d : ℕ) → F X Y u d → E X Y u d) → {X Y : ℕ} → FirstBad E X Y → FirstBad F X Y
same_bad to from b = record {
  consistent = same_consistent to from b.consistent;
  bad = record { joined = same_joined to from b.bad.joined; none = λ s. b.bad.none (same_shortest from to s) };
  before = λ X' Y' h. same_fine to from (b.before X' Y' h);
}
