-- What a board says, whatever its form: the points done, their minutes and the clock; and what holds between events of a
-- plan that passes. For the theorems on deadlines, events and stuck boards, over any edges E. Assumes nothing.
use Prim.Native.Nat.{ℕ, ◌+◌, ◌≤◌}
use mathlib.Core.Path.{◌≡◌, refl}
use mathlib.Core.Bool.{Bool, true, false}
use mathlib.Core.Logic.{◌⊎◌, inl, inr}
use native.Mathlib.Omega.{arith}
use Rattle.network.specs.Walks.{Walk, nil, step}

pub record State : Type 0 where
  pub done : ℕ → Bool
  pub minute : ℕ → ℕ
  pub clock : ℕ

-- the point X is done; it is not; it is one of the two, and never both
abbrev pub Done : State → ℕ → Type 0
Done s X = s.done X ≡ true

abbrev pub Undone : State → ℕ → Type 0
Undone s X = s.done X ≡ false

pub ask : (s : State) (X : ℕ) → Done s X ⊎ Undone s X
ask s X = go (s.done X) refl
  where
    go : (b : Bool) → s.done X ≡ b → Done s X ⊎ Undone s X
    go true e = inl e
    go false e = inr e

pub clash : {b : Bool} {A : Type 0} → b ≡ true → b ≡ false → A
clash p q = let z : ◌≡◌ {A = ℕ} 0 1 = cc in absurd (omega arith)

-- what becomes of the point X from s to s': it was done before, it is done at t, and P is why it may be, or it is still not
-- done
pub data Change (P : ℕ → Type 0) (s s' : State) (t X : ℕ) : Type 0 where
  same : Done s X → Done s' X → s'.minute X ≡ s.minute X → Change P s s' t X
  fresh : Undone s X → Done s' X → s'.minute X ≡ t → P X → Change P s s' t X
  still : Undone s X → Undone s' X → Change P s s' t X

module _ {P : ℕ → Type 0} {s s' : State} {t X : ℕ} where
  -- what is done stays done, at its minute, and what is not done was not done
  pub stays : Done s X → Change P s s' t X → Done s' X × (s'.minute X ≡ s.minute X)
  stays x (same h h' e) = (h', e)
  stays x (fresh h h' e p) = clash x h
  stays x (still h h') = clash x h

  pub undone_before : Undone s' X → Change P s s' t X → Undone s X
  undone_before x (same h h' e) = clash h' x
  undone_before x (fresh h h' e p) = clash h' x
  undone_before x (still h h') = h

module _ (E : ℕ → ℕ → ℕ → ℕ → Type 0) where
  -- done points keep every walk between them, and no walk from one has run out
  pub record Invariant (s : State) : Type 0 where
    pub past : (X : ℕ) → Done s X → s.minute X ≤ s.clock
    pub both : {X Y u d : ℕ} → Done s X → Done s Y → Walk E X Y u d → s.minute Y + d ≤ s.minute X + u
    pub ahead : {X Y u d : ℕ} → Done s X → Undone s Y → Walk E X Y u d → s.clock + d ≤ s.minute X + u

  -- it holds where nothing is done
  pub at_start : (s : State) → ((X : ℕ) → Undone s X) → Invariant s
  at_start s un =
      record { past = λ X x. clash x (un X); both = λ {X} x y w. clash x (un X); ahead = λ {X} x y w. clash x (un X) }

  -- and gives that each edge between done points is kept
  pub kept : {s : State} {X Y u d : ℕ} → Invariant s → Done s X → Done s Y → E X Y u d → s.minute Y + d ≤ s.minute X + u
  kept inv x y e = omega (arith, inv.both x y (step e nil))
