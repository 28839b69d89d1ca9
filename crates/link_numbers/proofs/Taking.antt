-- A list is filled with what a function gives at each number. Assumes nothing.
use mathlib.Core.Path.{◌≡◌, refl, sym, ap, ◌∙◌}
use mathlib.Core.List.{List, map}
use Prim.Native.Nat.{ℕ, zero, suc, ◌+◌, ◌<◌, ◌≤◌}
use native.Mathlib.Omega.{arith}
use native.Mathlib.Decide.{ℕ_discrete}
use lib.ListN.{length, get_or, set, replicate, length-set, length-map, length-replicate}
use lib.Seq.{get_or-set_same, get_or-set_other, ext_get_or}
use Rattle.points.specs.Sets.{from}

pub from_long : (n p : ℕ) → length (from p n) ≡ n
unfolding from
from_long zero p = refl
from_long (suc n) p = ap suc (from_long n (suc p))

module _ {A : Type 0} (f : ℕ → A) (d : A) where
  pub map_at : (n p i : ℕ) → i < n → get_or (map f (from p n)) i d ≡ f (p + i)
  unfolding from
  map_at zero p i h = absurd (omega arith)
  map_at (suc n) p zero h = let e : p + 0 ≡ p = omega arith in rw e
  map_at (suc n) p (suc i) h = let e : p + suc i ≡ suc p + i = omega arith in rw e (map_at n (suc p) i (omega arith))

  -- the first q places are those of f
  pub record Listed (n q : ℕ) (xs : List A) : Type 0 where
    pub long : length xs ≡ n
    pub here : (k : ℕ) → k < q → get_or xs k d ≡ f k

  pub listed_start : (n : ℕ) → Listed n 0 (replicate n d)
  listed_start n = record { long = length-replicate n d; here = λ k h. absurd (omega arith) }

  pub listed_turn : (n q : ℕ) (xs : List A) → Listed n q xs → q < n → (v : A) → v ≡ f q → Listed n (q + 1) (set xs q v)
  listed_turn n q xs l h v e = record { long = simp length-set l.long; here = λ k b. go k b (ℕ_discrete k q) }
    where
      go : (k : ℕ) → k < q + 1 → Dec (k ≡ q) → get_or (set xs q v) k d ≡ f k
      go k b (yes x) = rw (x, get_or-set_same xs q v d (omega (arith, l.long))) e
      go k b (no x) = rw (get_or-set_other xs q k v d x) (l.here k (omega arith))

  pub listed_end : (n q : ℕ) (xs : List A) → Listed n q xs → n ≤ q → xs ≡ map f (from 0 n)
  listed_end n q xs l h =
      ext_get_or d xs (map f (from 0 n)) (l.long ∙ sym (length-map (from 0 n) f ∙ from_long n 0)) (λ k b. l.here k (omega (arith, l.long)) ∙ sym (here k (omega (arith, l.long))))
    where
      here : (k : ℕ) → k < n → get_or (map f (from 0 n)) k d ≡ f k
      here k b = let z : 0 + k ≡ k = omega arith in rw z at (map_at n 0 k b)
