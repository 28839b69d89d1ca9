-- The least of what the points that pass a test give, and the set of them. Assumes nothing.
use mathlib.Core.Path.{◌≡◌, refl, ap, sym, ◌∙◌}
use mathlib.Core.Logic.{◌⊎◌, inl, inr}
use mathlib.Core.Bool.{Bool, true, false, or-true}
use mathlib.Core.List.{List, [], ◌∷◌}
use Prim.Native.Nat.{ℕ, zero, suc, ◌+◌, ◌^◌, ◌≤◌, ◌<◌, min}
use native.Mathlib.Nat.{eq-or-lt_of_le}
use native.Mathlib.Omega.{arith}
use native.Mathlib.Decide.{dec_lt}
use lib.Dec.{eqb}
use borrow.Author.Tests.{eqb-true, eq-eqb}
use Rattle.points.specs.Sets.{member, with_of, from}
use Rattle.points.proofs.Laws.{member_empty, member_with, with_fits}
use Rattle.std.specs.Prelude.{if◌then◌else◌}
use Rattle.plan.specs.Limits.{most_points}
use Rattle.board.specs.Windows.{never}
use Rattle.board.proofs.Theorems.Each.{clash, either}
use Rattle.promise.specs.Plays.{least_of, set_of}

module _ (test : ℕ → Bool) where
  -- No point that passes gives less than the least.
  pub least_of_le : (at : ℕ → ℕ) (n p q : ℕ) → p ≤ q → q < p + n → test q ≡ true → least_of test at (from p n) ≤ at q
  unfolding least_of from
  least_of_le at zero p q a l t = absurd (omega arith)
  least_of_le at (suc n) p q a l t = go (eq-or-lt_of_le a) (test p) refl (λ h. least_of_le at n (suc p) q h (omega arith) t)
    where
      go : (p ≡ q) ⊎ (p < q) → (c : Bool) → test p ≡ c → (p < q → least_of test at (from (suc p) n) ≤ at q)
          → (if c then min (at p) (least_of test at (from (suc p) n)) else least_of test at (from (suc p) n)) ≤ at q
      go (inl k) true e f = let z : at p ≡ at q = ap at k in omega arith
      go (inl k) false e f = clash (sym t ∙ rw (← k) e)
      go (inr h) true e f = omega (arith, f h)
      go (inr h) false e f = f h

  -- It is never, or one of them gives it.
  pub least_of_at : (at : ℕ → ℕ) (qs : List ℕ) → (least_of test at qs ≡ never) ⊎ ((q : ℕ) × (test q ≡ true) × (at q ≡ least_of test at qs))
  unfolding least_of
  least_of_at at [] = inl refl
  least_of_at at (q ∷ qs) = go (test q) refl (dec_lt (at q) (least_of test at qs)) (least_of_at at qs)
    where
      go : (c : Bool) → test q ≡ c → Dec (at q < least_of test at qs) → (least_of test at qs ≡ never) ⊎ ((q : ℕ) × (test q ≡ true) × (at q ≡ least_of test at qs))
          → ((if c then min (at q) (least_of test at qs) else least_of test at qs) ≡ never)
          ⊎ ((r : ℕ) × (test r ≡ true) × (at r ≡ (if c then min (at q) (least_of test at qs) else least_of test at qs)))
      go true e (yes l) w = inr (q, e, omega arith)
      go true e (no l) (inl z) = inl (omega arith)
      go true e (no l) (inr w) = inr (w.0, w.1, omega (arith, w.2))
      go false e d w = w

  -- A point that passes is in the set, and one in the set passes.
  pub set_of_in : (n p q : ℕ) → p + n ≤ most_points → p ≤ q → q < p + n → test q ≡ true → member (set_of test (from p n)) q ≡ true
  unfolding set_of from
  set_of_in zero p q m a l t = absurd (omega arith)
  set_of_in (suc n) p q m a l t = go (eq-or-lt_of_le a) (test p) refl (λ h. set_of_in n (suc p) q (omega arith) h (omega arith) t)
    where
      rest : ℕ
      rest = set_of test (from (suc p) n)

      go : (p ≡ q) ⊎ (p < q) → (c : Bool) → test p ≡ c → (p < q → member rest q ≡ true) → member (if c then with_of rest p else rest) q ≡ true
      go (inl k) true e f = rw (member_with rest p q (omega arith), eq-eqb q p (sym k))
      go (inl k) false e f = clash (sym t ∙ rw (← k) e)
      go (inr h) true e f = rw (member_with rest p q (omega arith), f h) (or-true (eqb q p))
      go (inr h) false e f = f h

  pub set_of_out : (n p q : ℕ) → p + n ≤ most_points → member (set_of test (from p n)) q ≡ true → test q ≡ true
  unfolding set_of from
  set_of_out zero p q m h = clash (sym h ∙ member_empty q)
  set_of_out (suc n) p q m h = go (test p) refl (set_of_out n (suc p) q (omega arith)) h
    where
      rest : ℕ
      rest = set_of test (from (suc p) n)

      go : (c : Bool) → test p ≡ c → (member rest q ≡ true → test q ≡ true) → member (if c then with_of rest p else rest) q ≡ true → test q ≡ true
      go true e f h =
          elim (either (eqb q p) (member rest q) (sym (member_with rest p q (omega arith)) ∙ h)) [
            | inl k ↦ rw (eqb-true q p k) e
            | inr k ↦ f k
          ]
      go false e f h = f h

  -- The set is one of 32 bits.
  pub set_of_fits : (qs : List ℕ) → set_of test qs < 2 ^ most_points
  unfolding set_of
  set_of_fits [] = omega arith
  set_of_fits (q ∷ qs) = go (test q) (set_of_fits qs)
    where
      go : (c : Bool) → set_of test qs < 2 ^ most_points → (if c then with_of (set_of test qs) q else set_of test qs) < 2 ^ most_points
      go true h = with_fits (set_of test qs) q h
      go false h = h
