-- Theorem B: what is done at the minute t keeps the invariant. Over any dispatchable edges E. Assumes nothing.
use Prim.Native.Nat.{ℕ, ◌+◌, ◌≤◌, ◌<◌}
use mathlib.Core.Path.{◌≡◌, refl}
use native.Mathlib.Omega.{arith}
use Rattle.network.specs.Walks.{Walk, nil, step, Vee, vee}
use Rattle.network.specs.Passing.{Dispatchable}
use Rattle.network.proofs.Laws.{vee_walk, lighter}
use Rattle.network.proofs.States.{State, Done, Undone, clash, Invariant, Change, same, fresh, still, undone_before}
use Rattle.network.proofs.Deadlines.{upward, Held, deadline}

module _ (E : ℕ → ℕ → ℕ → ℕ → Type 0) where
  -- all that X comes after is done, and long enough before t
  abbrev pub Free : State → ℕ → ℕ → Type 0
  Free s t X = (W u d : ℕ) → E X W u d → u < d → Done s W × (s.minute W + d ≤ t + u)

  -- why X may be done at t: it is free, or a done point lets it come no later
  pub data Why (s : State) (t X : ℕ) : Type 0 where
    opened : Free s t X → Why s t X
    ended : {A u d : ℕ} → E A X u d → Done s A → s.minute A + u ≤ t + d → Why s t X

  -- the minute v to which walks to Y are held: when it was done, or t
  data Aim (s : State) (t Y v : ℕ) : Type 0 where
    old : Done s Y → v ≡ s.minute Y → Aim s t Y v
    new : Undone s Y → v ≡ t → Aim s t Y v

  module _ (s : State) (t : ℕ) (inv : Invariant E s) (held : (Z : ℕ) → Undone s Z → Held E s t Z) (dispatch : Dispatchable E) (now : s.clock ≤ t) where
    from_old : {X Y v u d : ℕ} → Done s X → Aim s t Y v → Walk E X Y u d → v + d ≤ s.minute X + u
    from_old x (old y e) w = omega (arith, inv.both x y w)
    from_old x (new y e) w = omega (arith, deadline E s t inv held dispatch x y w)

    aim_past : {Y v : ℕ} → Aim s t Y v → v ≤ t
    aim_past {Y} (old y e) = omega (arith, inv.past Y y)
    aim_past (new y e) = omega arith

    from_free : {X Y v u d : ℕ} → Free s t X → Aim s t Y v → Vee E X Y u d → v + d ≤ t + u
    from_free k a (vee nil w) = omega (arith, aim_past a, upward E w)
    from_free k a (vee (step e v) w) =
        let h = k _ _ _ e.edge e.below in
        omega (arith, from_old h.0 a (vee_walk E (vee v w)))

    from_new : {X Y v u d : ℕ} → Why s t X → Aim s t Y v → Walk E X Y u d → v + d ≤ t + u
    from_new (opened k) a w = let b = lighter E dispatch w in omega (arith, from_free k a b.walk)
    from_new (ended e x h) a w = omega (arith, from_old x a (step e w))

    module _ (s' : State) (change : (X : ℕ) → Change (Why s t) s s' t X) (clock : s'.clock ≡ t) where
      from : {X Y v u d : ℕ} → Done s' X → Change (Why s t) s s' t X → Aim s t Y v → Walk E X Y u d → v + d ≤ s'.minute X + u
      from x (same h h' e) a w = omega (arith, from_old h a w)
      from x (fresh h h' e y) a w = omega (arith, from_new y a w)
      from x (still h h') a w = clash x h'

      aim_done : {Y : ℕ} → Done s' Y → Change (Why s t) s s' t Y → Aim s t Y (s'.minute Y)
      aim_done y (same h h' e) = old h e
      aim_done y (fresh h h' e k) = new h e
      aim_done y (still h h') = clash y h'

      pub changed : Invariant E s'
      changed =
          record {
            past = λ X x. omega (arith, aim_past (aim_done x (change X)));
            both = λ {X} {Y} x y w. from x (change X) (aim_done y (change Y)) w;
            ahead = λ {X} {Y} x y w. omega (arith, from x (change X) (new (undone_before y (change Y)) refl) w);
          }
