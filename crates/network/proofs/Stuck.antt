-- Theorem C: over consistent edges E not every point that is not done comes after another one, and no window is empty.
-- Assumes nothing.
use Prim.Native.Nat.{ℕ, ◌+◌, ◌≤◌, ◌<◌}
use mathlib.Core.Logic.{◌⊎◌, inl, inr}
use native.Mathlib.Omega.{arith}
use Rattle.network.specs.Walks.{Walk, nil, step}
use Rattle.network.specs.Passing.{Consistent}
use Rattle.network.proofs.Laws.{append}
use Rattle.network.proofs.States.{State, Done, Undone, ask, clash, Invariant}
use Rattle.network.proofs.Changes.{Free}
use Rattle.network.proofs.Search.{all_or_one, Next, no_descent}

module _ (E : ℕ → ℕ → ℕ → ℕ → Type 0) where
  -- a walk that comes to less than nothing
  record Drop (X Y : ℕ) : Type 0 where
    up : ℕ
    down : ℕ
    below : up < down
    walk : Walk E X Y up down

  drop_trans : (X Y Z : ℕ) → Drop X Y → Drop Y Z → Drop X Z
  drop_trans X Y Z v w =
      record { up = v.up + w.up; down = v.down + w.down; below = omega arith; walk = append E v.walk w.walk }

  -- Z comes after a point that is not done
  pub record Blocked (s : State) (Z : ℕ) : Type 0 where
    pub to : ℕ
    pub up : ℕ
    pub down : ℕ
    pub edge : E Z to up down
    pub below : up < down
    pub undone : Undone s to

  module _ (s : State) (n : ℕ) (con : Consistent E) (inside : (X Y u d : ℕ) → E X Y u d → Y < n) where
    not_all_blocked : ((X : ℕ) → X < n → Undone s X → Blocked s X) → (X : ℕ) → X < n → Undone s X → ⊥
    not_all_blocked block X h x =
        no_descent Drop drop_trans (λ X w. omega (arith, con.round w.walk)) n (λ X. (X < n) × Undone s X) (λ X h. h.0) next X (h, x)
      where
        next : (X : ℕ) → (X < n) × Undone s X → Next Drop (λ X. (X < n) × Undone s X) X
        next X h =
            let b = block X h.0 h.1 in
            (b.to, (inside _ _ _ _ b.edge, b.undone), record { up = b.up + 0; down = b.down + 0; below = omega arith; walk = step b.edge nil })

    -- where each point that is not done is blocked or has Q, and some point is not done, a point that is not done has Q
    pub one_free : (Q : ℕ → Type 0) → ((Z : ℕ) → Undone s Z → Blocked s Z ⊎ Q Z) → (X : ℕ) → X < n → Undone s X → (Z : ℕ) × (Z < n) × Undone s Z × Q Z
    one_free Q look X h x =
        elim (all_or_one (λ Z. Undone s Z → Blocked s Z) (λ Z. Undone s Z × Q Z) test n) [
          | inl f ↦ absurd (not_all_blocked f X h x)
          | inr r ↦ (r.0, r.1, r.2.0, r.2.1)
        ]
      where
        test : (Z : ℕ) → (Undone s Z → Blocked s Z) ⊎ (Undone s Z × Q Z)
        test Z =
            elim (ask s Z) [
              | inl e ↦ inl (λ z. clash e z)
              | inr z ↦ elim (look Z z) [
                | inl b ↦ inl (λ _. b)
                | inr q ↦ inr (z, q)
              ]
            ]

  -- no window is empty: where X bounds Z, that bound is neither before the clock nor before a done point that Z comes
  -- after allows, so Z may be done then
  module _ (s : State) (inv : Invariant E s) where
    pub bound_now : {X Z u d : ℕ} → Done s X → Undone s Z → E X Z u d → s.clock + d ≤ s.minute X + u
    bound_now x z e = omega (arith, inv.ahead x z (step e nil))

    pub bound_free : {X Z Y u d u' d' : ℕ} → Done s X → Done s Y → E X Z u d → E Z Y u' d' → s.minute Y + d + d' ≤ s.minute X + u + u'
    bound_free x y e e' = omega (arith, inv.both x y (step e (step e' nil)))

    pub at_deadline : (t : ℕ) {X Z u d : ℕ} → ((W u d : ℕ) → E Z W u d → u < d → Done s W) → Done s X → E X Z u d → s.minute X + u ≤ t + d → Free E s t Z
    at_deadline t after x e h = λ W u d e' p. (after W u d e' p, omega (arith, bound_free x (after W u d e' p) e e'))
