-- Searches through the numbers below a bound. Assumes nothing.
use Prim.Native.Nat.{ℕ, zero, suc, ◌<◌}
use mathlib.Core.Path.{◌≡◌}
use mathlib.Core.Logic.{◌⊎◌, inl, inr, ⊎_elim}
use native.Mathlib.Omega.{arith}
use native.Mathlib.Nat.{eq-or-lt_of_le, le_of_suc-le-suc}
use native.Mathlib.Decide.{dec_lt}

-- where each number has P or Q, each number below k has P or one has Q
module _ (P Q : ℕ → Type 0) (test : (i : ℕ) → P i ⊎ Q i) where
  pub all_or_one : (k : ℕ) → ((i : ℕ) → i < k → P i) ⊎ ((i : ℕ) × (i < k) × Q i)
  all_or_one zero = inl (λ i h. absurd (omega arith))
  all_or_one (suc k) = ⊎_elim
      (λ f. ⊎_elim (λ p. inl (λ i h. ⊎_elim (λ e. rw e p) (f i) (eq-or-lt_of_le (le_of_suc-le-suc h)))) (λ q. inr (k, omega arith, q)) (test k))
      (λ q. inr (q.0, omega arith, q.2)) (all_or_one k)

-- x is above a member of U
abbrev pub Next : (ℕ → ℕ → Type 0) → (ℕ → Type 0) → ℕ → Type 0
Next R U x = (y : ℕ) × U y × R x y

-- below a bound there is no endless descent: where each member of U is above another, U has no member
module _ (R : ℕ → ℕ → Type 0) (trans : (x y z : ℕ) → R x y → R y z → R x z) (irrefl : (x : ℕ) → R x x → ⊥) where
  -- a step to k, the topmost number, goes one further
  skip : (k : ℕ) (U : ℕ → Type 0) → ((x : ℕ) → U x → x < suc k) → ((x : ℕ) → U x → Next R U x) → (x : ℕ) → U x → Next R (λ y. U y × (y < k)) x
  skip k U top next x m =
      let (y, a, r) = next x m in
      let (z, b, q) = next y a in
      elim (dec_lt y k) [
        | yes h ↦ (y, (a, h), r)
        | no h ↦ elim (dec_lt z k) [
          | yes g ↦ (z, (b, g), trans x y z r q)
          | no g ↦ let e : z ≡ y = omega (arith, top y a, top z b) in absurd (irrefl y (rw e at q))
        ]
      ]

  pub no_descent : (k : ℕ) (U : ℕ → Type 0) → ((x : ℕ) → U x → x < k) → ((x : ℕ) → U x → Next R U x) → (x : ℕ) → U x → ⊥
  no_descent zero U top next x m = omega (arith, top x m)
  no_descent (suc k) U top next x m =
      let n = skip k U top next x m in
      no_descent k (λ y. U y × (y < k)) (λ y h. h.1) (λ y h. skip k U top next y h.0) n.0 n.1
