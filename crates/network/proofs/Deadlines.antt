-- Theorem A: no walk from a done point to one that is not done comes to less than the minute t, where t is past no
-- deadline. Over any dispatchable edges E. Assumes nothing.
use Prim.Native.Nat.{ℕ, zero, suc, ◌+◌, ◌≤◌, ◌<◌}
use mathlib.Core.Logic.{inl, inr}
use native.Mathlib.Omega.{arith}
use Rattle.network.specs.Walks.{Walk, nil, step, Negative, NonNegative, Vee, vee}
use Rattle.network.specs.Passing.{Dispatchable}
use Rattle.network.proofs.Laws.{lighter}
use Rattle.network.proofs.States.{State, Done, Undone, ask, clash, Invariant}

module _ (E : ℕ → ℕ → ℕ → ℕ → Type 0) where
  -- a walk of non-negative edges is not negative
  pub upward : {X Y u d : ℕ} → Walk (NonNegative E) X Y u d → d ≤ u
  upward nil = omega arith
  upward (step e w) = omega (arith, e.above, upward w)

  -- why Z, which is not done, is not due before t: no done point bounds it sooner; it comes after a point that is not
  -- done; or it comes long enough after one that is
  pub data Held (s : State) (t Z : ℕ) : Type 0 where
    bound : ((X u d : ℕ) → Done s X → E X Z u d → d ≤ u → t + d ≤ s.minute X + u) → Held s t Z
    waits : {W u d : ℕ} → E Z W u d → u < d → Undone s W → Held s t Z
    runs : {A u d : ℕ} → E Z A u d → Done s A → t + u ≤ s.minute A + d → Held s t Z

  module _ (s : State) (t : ℕ) (inv : Invariant E s) (held : (Z : ℕ) → Undone s Z → Held s t Z) where
    -- the theorem for walks that come to less than m
    record Below (m : ℕ) : Type 0 where
      low : {X Y u d : ℕ} → Done s X → Undone s Y → Walk E X Y u d → s.minute X + u < m + d → t + d ≤ s.minute X + u

    -- the first edge to a point that is not done
    leave : {m X Z u d : ℕ} → Below m → Done s X → E X Z u d → d ≤ u → s.minute X + u ≤ m + d → Held s t Z → t + d ≤ s.minute X + u
    leave ih x e p h (bound b) = b _ _ _ x e p
    leave ih x e p h (waits e' q w) = omega (arith, ih.low x w (step e (step e' nil)) (omega arith))
    leave ih x e p h (runs e' a b) = omega (arith, inv.both x a (step e (step e' nil)))

    along_rise : {m X Y u d : ℕ} → Below m → Done s X → Undone s Y → Walk (NonNegative E) X Y u d → s.minute X + u ≤ m + d → t + d ≤ s.minute X + u
    along_rise ih x y nil h = clash x y
    along_rise ih x y (step {Z = Z} e w) h =
        elim (ask s Z) [
          | inl z ↦ let k = inv.both x z (step e.edge nil) in omega (arith, along_rise ih z y w (omega arith))
          | inr z ↦ let k = upward w in omega (arith, leave ih x e.edge e.above (omega arith) (held Z z))
        ]

    along : {m X M Y u d u' d' : ℕ} → Below m → Done s X → Undone s Y → Walk (Negative E) X M u d → Walk (NonNegative E) M Y u' d' → s.minute X + (u + u') ≤ m + (d + d') → t + (d + d') ≤ s.minute X + (u + u')
    along ih x y nil w h = omega (arith, along_rise ih x y w (omega arith))
    along {X = X} ih x y (step {Z = Z} e v) w h =
        elim (ask s Z) [
          | inl z ↦ let k = inv.both x z (step e.edge nil) in omega (arith, along ih z y v w (omega arith))
          | inr z ↦ absurd (omega (arith, e.below, inv.ahead x z (step e.edge nil), inv.past X x))
        ]

    along_vee : {m X Y u d : ℕ} → Below m → Done s X → Undone s Y → Vee E X Y u d → s.minute X + u ≤ m + d → t + d ≤ s.minute X + u
    along_vee ih x y (vee v w) h = along ih x y v w h

    module _ (dispatch : Dispatchable E) where
      below : (m : ℕ) → Below m
      below zero = record { low = λ x y w h. absurd (omega (arith, inv.ahead x y w)) }
      below (suc m) =
          record { low = λ x y w h. let b = lighter E dispatch w in omega (arith, along_vee (below m) x y b.walk (omega arith)) }

      pub deadline : {X Y u d : ℕ} → Done s X → Undone s Y → Walk E X Y u d → t + d ≤ s.minute X + u
      deadline {X} {Y} {u} {d} x y w = (below (suc (s.minute X + u))).low x y w (omega arith)
