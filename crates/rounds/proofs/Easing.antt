-- Where a walk ends; and a table of ways, lowered by a negative edge. Assumes nothing.
use mathlib.Core.Path.{◌≡◌}
use mathlib.Core.Logic.{⊎_elim}
use Prim.Native.Nat.{ℕ, ◌+◌, ◌<◌, ◌≤◌}
use native.Mathlib.Omega.{arith}
use native.Mathlib.Decide.{ℕ_discrete}
use Rattle.network.specs.Walks.{Walk, nil, step, Negative, NonNegative, Vee, vee}
use Rattle.network.proofs.Laws.{vee_walk}
use Rattle.tables.specs.Tables.{Table, bias, none}
use Rattle.tables.specs.Entries.{depth}
use Rattle.tables.specs.Distances.{Inside}
use Rattle.rounds.specs.Ways.{Eased, Reached, Ways, LeastWays}

-- where a walk from a point of the plan ends
pub ends : (E : ℕ → ℕ → ℕ → ℕ → Type 0) (n : ℕ) → Inside E n → {X Y u d : ℕ} → X < n → Walk E X Y u d → Y < n
ends E n inside h nil = h
ends E n inside h (step e w) = ends E n inside (inside _ _ _ _ e).1 w

module _ (E : ℕ → ℕ → ℕ → ℕ → Type 0) (n : ℕ) (inside : Inside E n) where
  -- a way is no shorter than the distance, which is not far below zero
  pub not_far : {v : Table} → Ways E n v → (X Y : ℕ) → X < n → Y < n → v X Y < none → bias ≤ v X Y + depth
  not_far w X Y hx hy h =
      let r = w.real X Y hx hy h in
      let l = w.distances.least X Y r.up r.down hx (vee_walk E r.walk) in
      omega (arith, l, r.weight, w.near X Y hx hy l.0)

  -- a negative edge in front of a way
  front : {X Z Y u d a v : ℕ} (drop : ℕ) → Negative E X Z u d → u + drop ≡ d → v + drop ≡ a → Reached E Z Y a → Reached E X Y v
  front {X} {Z} {Y} {u} {d} {a} {v} drop e h k r = go r.walk r.weight
    where
      go : {b c : ℕ} → Vee E Z Y b c → a + c ≡ bias + b → Reached E X Y v
      go (vee {u = u₁} {d = d₁} {u' = u₂} {d' = d₂} f g) l = record { up = u + u₁ + u₂; down = d + d₁ + d₂; walk = vee (step e f) g; weight = omega arith }

  module _ {f g : Table} {x z drop : ℕ} (e : Eased n x z drop f g) where
    -- what holds of the row's entries, and elsewhere of a table that is as it was, holds everywhere
    places : (P : ℕ → ℕ → ℕ → Type 0) → ((Y : ℕ) → Y < n → P x Y (g x Y)) → ((X Y : ℕ) → X < n → Y < n → P X Y (f X Y)) → (X Y : ℕ) → X < n → Y < n → P X Y (g X Y)
    places P here there X Y hx hy = elim (ℕ_discrete X x) [
      | yes k ↦ rw k (here Y hy)
      | no k ↦ rw (e.rest X Y k hy) (there X Y hx hy)
    ]

    pub eased_lower : x < n → (X Y : ℕ) → X < n → Y < n → g X Y ≤ f X Y
    eased_lower hx = places (λ X Y a. a ≤ f X Y) (λ Y hy. (e.cell Y hy).low) (λ X Y h k. omega arith)

    pub eased_ways : {u d : ℕ} → x < n → z < n → E x z u d → u + drop ≡ d → 0 < drop → Ways E n f → Ways E n g
    eased_ways {u} {d} hx hz edge k pos w = record { real = real; flat = flat; distance = w.distance; distances = w.distances; near = w.near }
      where
        here : (Y : ℕ) → Y < n → g x Y < none → Reached E x Y (g x Y)
        here Y hy h = ⊎_elim
            (λ i. rw i (w.real x Y hx hy (omega arith)))
            (λ i. front drop (record { edge = edge; below = omega arith }) k i.1 (w.real z Y hz hy i.0))
            (e.cell Y hy).from

        real : (X Y : ℕ) → X < n → Y < n → g X Y < none → Reached E X Y (g X Y)
        real = places (λ X Y a. a < none → Reached E X Y a) here w.real

        flat : (X Y a b : ℕ) → X < n → Walk (NonNegative E) X Y a b → (g X Y < none) × (g X Y + b ≤ bias + a)
        flat X Y a b h v =
            let hy = ends (NonNegative E) n (λ A B p q i. inside A B p q i.edge) h v in
            omega (arith, w.flat X Y a b h v, eased_lower hx X Y h hy)

  -- what is still is least
  pub least_way_lem : {v : Table} → LeastWays E n v → {X Y u d : ℕ} → X < n → Y < n → Vee E X Y u d → (v X Y < none) × (v X Y + d ≤ bias + u)
  least_way_lem {v} l hx hy (vee f g) = go hx f g
    where
      go : {X M Y u d u' d' : ℕ} → X < n → Walk (Negative E) X M u d → Walk (NonNegative E) M Y u' d' → (v X Y < none) × (v X Y + (d + d') ≤ bias + (u + u'))
      go hx nil w = omega (arith, l.ways.flat _ _ _ _ hx w)
      go {X} {M} {Y} hx (step {Z = Z} {u = a} {d = b} e p) w =
          let hz = (inside _ _ _ _ e.edge).1 in
          let r = go hz p w in
          let hy = ends (NonNegative E) n (λ A B i j k. inside A B i j k.edge) (ends (Negative E) n (λ A B i j k. inside A B i j k.edge) hz p) w in
          omega (arith, r, e.below, l.still X Z a b Y e.edge e.below hy r.0)
