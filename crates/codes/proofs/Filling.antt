-- A list with room for each point, filled one after the other. Assumes nothing.
use mathlib.Core.Path.{◌≡◌, sym, ◌∙◌}
use mathlib.Core.List.{List}
use Prim.Native.Nat.{ℕ, ◌+◌, ◌<◌}
use native.Mathlib.Omega.{arith}
use native.Mathlib.Decide.{ℕ_discrete}
use lib.ListN.{get_or, set, replicate, length-set, length-replicate}
use lib.Seq.{get_or-set_same, get_or-set_other}
use Rattle.plan.specs.Limits.{most_points}
use Rattle.codes.specs.Ponds.{ForEach}

module _ {A : Type 0} (f : ℕ → A) (past : A) where
  pub filled_none : (x : A) → ForEach f past 0 (replicate most_points x)
  filled_none x = record { long = length-replicate most_points x; each = λ j h. absurd (omega arith) }

  pub filled_more : (i : ℕ) (xs : List A) → ForEach f past i xs → i < most_points → (x : A) → f i ≡ x → ForEach f past (i + 1) (set xs i x)
  filled_more i xs w h x e = record { long = length-set xs i x ∙ w.long; each = λ j k. at j k (ℕ_discrete j i) }
    where
      at : (j : ℕ) → j < i + 1 → Dec (j ≡ i) → get_or (set xs i x) j past ≡ f j
      at j k (yes q) = rw q (get_or-set_same xs i x past (omega (arith, w.long)) ∙ sym e)
      at j k (no q) = get_or-set_other xs i j x past q ∙ w.each j (omega arith)

  pub filled_all : (i : ℕ) (xs : List A) → ForEach f past i xs → i ≡ most_points → ForEach f past most_points xs
  filled_all i xs w e = record { long = w.long; each = λ j h. w.each j (omega arith) }
