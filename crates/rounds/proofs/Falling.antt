-- The negative edge of a row is the one that the row stands for, if any. Assumes nothing.
use mathlib.Core.Path.{◌≡◌, refl}
use mathlib.Core.List.{List}
use Prim.Native.Nat.{ℕ, min, ◌+◌, ◌-◌, ◌<◌}
use native.Mathlib.Omega.{arith}
use native.Mathlib.Decide.{ℕ_discrete}
use borrow.Author.Tests.{eq-eqb, ne_eqb}
use Rattle.rows.specs.Sheet.{kind_at, first_at, second_at, over_at, row_at, by, Laid, ordinary, there, back, wait}
use Rattle.rows.specs.declared.sheet.Row.{Row}
use Rattle.rounds.specs.declared.Fall.{Fall}
use Rattle.rounds.specs.Ways.{fall_of}

-- the negative edge by the row's kind, from what the code's calls answer
module _ (r : Row) (p : ℕ) where
  pub of_ordinary : {d : ℕ} → r.kind ≡ 3 → d ≡ r.second - r.first → record { from = r.from; to = r.to; drop = d } ≡ fall_of r p
  unfolding fall_of
  of_ordinary k e = rw (e, eq-eqb r.kind 3 k)

  pub of_wait : {d : ℕ} → (r.kind ≡ 3 → ⊥) → r.kind ≡ 4 → d ≡ min r.first p → record { from = r.from; to = r.to; drop = d } ≡ fall_of r p
  unfolding fall_of
  of_wait k k' e = rw (e, ne_eqb r.kind 3 k, eq-eqb r.kind 4 k')

  pub of_link : (r.kind ≡ 3 → ⊥) → (r.kind ≡ 4 → ⊥) → r.kind ≡ 2 → record { from = r.to; to = r.from; drop = p } ≡ fall_of r p
  unfolding fall_of
  of_link k k' k'' = rw (ne_eqb r.kind 3 k, ne_eqb r.kind 4 k', eq-eqb r.kind 2 k'')

  pub of_other : (r.kind ≡ 3 → ⊥) → (r.kind ≡ 4 → ⊥) → (r.kind ≡ 2 → ⊥) → record { from = 0; to = 0; drop = 0 } ≡ fall_of r p
  unfolding fall_of
  of_other k k' k'' = rw (ne_eqb r.kind 3 k, ne_eqb r.kind 4 k', ne_eqb r.kind 2 k'')

-- the edge from f.from to f.to that is f.drop below zero
pub record Falls (s w : List ℕ) (q : ℕ) (f : Fall) : Type 0 where
  pub up : ℕ
  pub down : ℕ
  pub edge : Laid s w q f.from f.to up down
  pub below : up + f.drop ≡ down

module _ (s w : List ℕ) (q : ℕ) where
  abbrev pub fall_at : Fall
  fall_at = fall_of (row_at s q) (by w (over_at s q))

  pub falls : 0 < fall_at.drop → Falls s w q fall_at
  unfolding fall_of
  falls = elim (ℕ_discrete (kind_at s q) 3) [
    | yes k ↦ rw (eq-eqb (kind_at s q) 3 k) (λ h. record { up = first_at s q; down = second_at s q; edge = ordinary k refl refl refl refl; below = omega arith })
    | no k ↦ elim (ℕ_discrete (kind_at s q) 4) [
      | yes k' ↦ rw (ne_eqb (kind_at s q) 3 k, eq-eqb (kind_at s q) 4 k') (λ h. record { up = 0; down = min (first_at s q) (by w (over_at s q)); edge = wait k' refl refl refl refl; below = omega arith })
      | no k' ↦ elim (ℕ_discrete (kind_at s q) 2) [
        | yes k'' ↦ rw (ne_eqb (kind_at s q) 3 k, ne_eqb (kind_at s q) 4 k', eq-eqb (kind_at s q) 2 k'') (λ h. record { up = 0; down = by w (over_at s q); edge = back k'' refl refl refl refl; below = omega arith })
        | no k'' ↦ rw (ne_eqb (kind_at s q) 3 k, ne_eqb (kind_at s q) 4 k', ne_eqb (kind_at s q) 2 k'') (λ h. absurd (omega arith))
      ]
    ]
  ]

  -- and the row has no other
  pub only_fall : {X Z u d : ℕ} → Laid s w q X Z u d → u < d → (X ≡ fall_at.from) × (Z ≡ fall_at.to) × (u + fall_at.drop ≡ d)
  unfolding fall_of
  only_fall (ordinary k a b e f) h = rw (eq-eqb (kind_at s q) 3 k) (a, b, omega arith)
  only_fall (there k a b e f) h = absurd (omega arith)
  only_fall (back k a b e f) h = rw (ne_eqb (kind_at s q) 3 (λ z. omega arith), ne_eqb (kind_at s q) 4 (λ z. omega arith), eq-eqb (kind_at s q) 2 k) (a, b, omega arith)
  only_fall (wait k a b e f) h = rw (ne_eqb (kind_at s q) 3 (λ z. omega arith), eq-eqb (kind_at s q) 4 k) (a, b, omega arith)
