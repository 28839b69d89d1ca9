-- Lists of points and minutes in order: what a list has, minutes put in order, and neighbours that are near. Assumes nothing.
use mathlib.Core.Path.{◌≡◌, refl, sym, ◌∙◌}
use mathlib.Core.Logic.{◌⊎◌, inl, inr}
use mathlib.Core.Bool.{Bool, true, false, cond, ◌||◌, or-true}
use mathlib.Core.List.{List, [], ◌∷◌, map}
use Prim.Native.Nat.{ℕ, zero, suc, ◌+◌, ◌≤◌, ◌<◌}
use native.Mathlib.Nat.{eq-or-lt_of_le}
use native.Mathlib.Omega.{arith}
use lib.Dec.{eqb, ltb}
use borrow.Author.Tests.{ltb-true, ltb-false, eqb-true, eqb-false, eq-eqb}
use Rattle.points.specs.Sets.{from, passing, first_or}
use Rattle.std.specs.Prelude.{if◌then◌else◌}
use Rattle.plan.specs.Limits.{farthest}
use Rattle.board.proofs.Theorems.Each.{clash, either, has}
use Rattle.promise.specs.GoodSheets.{in_place, in_order, Near}

-- ---- what a list has

pub has_head : (m : ℕ) (ms : List ℕ) → has m (m ∷ ms) ≡ true
has_head m ms = rw (eq-eqb m m refl)

pub has_rest : (k m : ℕ) (ms : List ℕ) → has k ms ≡ true → has k (m ∷ ms) ≡ true
has_rest k m ms h = rw h (or-true (eqb k m))

-- one of a list is its first or one of the others
pub split : (k m : ℕ) (ms : List ℕ) → has k (m ∷ ms) ≡ true → (k ≡ m) ⊎ (has k ms ≡ true)
split k m ms h = elim (either (eqb k m) (has k ms) h) [ inl e ↦ inl (eqb-true k m e) | inr e ↦ inr e ]

-- ---- the points of a plan that pass a test

module _ (test : ℕ → Bool) where
  pub passing_in : (n p q : ℕ) → p ≤ q → q < p + n → test q ≡ true → has q (passing test (from p n)) ≡ true
  unfolding passing from
  passing_in zero p q a l t = absurd (omega arith)
  passing_in (suc n) p q a l t = go (eq-or-lt_of_le a) (test p) refl (λ h. passing_in n (suc p) q h (omega arith) t)
    where
      go : (p ≡ q) ⊎ (p < q) → (c : Bool) → test p ≡ c → (p < q → has q (passing test (from (suc p) n)) ≡ true)
          → has q (cond c (p ∷ passing test (from (suc p) n)) (passing test (from (suc p) n))) ≡ true
      go (inl k) true e f = rw (eq-eqb q p (sym k))
      go (inl k) false e f = clash (sym t ∙ rw (← k) e)
      go (inr h) true e f = has_rest q p (passing test (from (suc p) n)) (f h)
      go (inr h) false e f = f h

  pub passing_out : (n p q : ℕ) → has q (passing test (from p n)) ≡ true → (p ≤ q) × (q < p + n) × (test q ≡ true)
  unfolding passing from
  passing_out zero p q h = clash (sym h)
  passing_out (suc n) p q h = go (test p) refl (λ k. let r = passing_out n (suc p) q k in (omega (arith, r.0), omega (arith, r.1), r.2)) h
    where
      rest : List ℕ
      rest = passing test (from (suc p) n)

      go : (c : Bool) → test p ≡ c → (has q rest ≡ true → (p ≤ q) × (q < p + suc n) × (test q ≡ true)) → has q (cond c (p ∷ rest) rest) ≡ true
          → (p ≤ q) × (q < p + suc n) × (test q ≡ true)
      go true e f k = elim (split q p rest k) [ inl z ↦ (omega arith, omega arith, rw z e) | inr z ↦ f z ]
      go false e f k = f k

-- ---- rising lists

-- m is below all of a list, and each of a list is below all that follow it
abbrev pub Below : ℕ → List ℕ → Type 0
Below m ms = (k : ℕ) → has k ms ≡ true → m < k

unfoldable pub Rising : List ℕ → Type 0
Rising [] = Unit {0}
Rising (m ∷ ms) = Below m ms × Rising ms

pub rising_first : (m : ℕ) (ms : List ℕ) → Rising (m ∷ ms) → Below m ms
unfolding Rising
rising_first m ms r = r.0

pub rising_rest : (m : ℕ) (ms : List ℕ) → Rising (m ∷ ms) → Rising ms
unfolding Rising
rising_rest m ms r = r.1

-- The points of a plan that pass a test are rising.
pub passing_rising : (test : ℕ → Bool) (n p : ℕ) → Rising (passing test (from p n))
unfolding passing from Rising
passing_rising test zero p = tt
passing_rising test (suc n) p = go (test p) (passing_rising test n (suc p))
  where
    go : (c : Bool) → Rising (passing test (from (suc p) n)) → Rising (cond c (p ∷ passing test (from (suc p) n)) (passing test (from (suc p) n)))
    go true r = (λ k h. omega (arith, (passing_out test n (suc p) k h).0), r)
    go false r = r

-- ---- minutes put in order

pub place_has : (k t : ℕ) (ms : List ℕ) → has k (in_place t ms) ≡ (eqb k t || has k ms)
unfolding in_place
place_has k t [] = refl
place_has k t (m ∷ ms) = go (ltb t m) (eqb t m) refl (place_has k t ms)
  where
    turn : (a b c : Bool) → (a || (b || c)) ≡ (b || (a || c))
    turn true true c = refl
    turn true false c = refl
    turn false b c = refl

    twice : (a b : Bool) → (a || b) ≡ (a || (a || b))
    twice true b = refl
    twice false b = refl

    go : (c d : Bool) → eqb t m ≡ d → has k (in_place t ms) ≡ (eqb k t || has k ms)
        → has k (if c then t ∷ m ∷ ms else (if d then m ∷ ms else m ∷ in_place t ms)) ≡ (eqb k t || (eqb k m || has k ms))
    go true d e r = refl
    go false true e r = rw (eqb-true t m e) (twice (eqb k m) (has k ms))
    go false false e r = rw r (turn (eqb k m) (eqb k t) (has k ms))

place_rising : (t : ℕ) (ms : List ℕ) → Rising ms → Rising (in_place t ms)
unfolding in_place Rising
place_rising t [] r = (λ k h. clash (sym h), tt)
place_rising t (m ∷ ms) r = go (ltb t m) (eqb t m) refl refl (place_rising t ms r.1)
  where
    go : (c d : Bool) → ltb t m ≡ c → eqb t m ≡ d → Rising (in_place t ms) → Rising (if c then t ∷ m ∷ ms else (if d then m ∷ ms else m ∷ in_place t ms))
    go true d e f s =
        let l = ltb-true t m e in
        ((λ k h. elim (split k m ms h) [ inl z ↦ omega arith | inr z ↦ omega (arith, r.0 k z) ]), r)
    go false true e f s = r
    go false false e f s =
        let l = ltb-false t m e in
        let n = eqb-false t m f in
        ((λ k h. elim (split k t ms (sym (place_has k t ms) ∙ h)) [ inl z ↦ omega arith | inr z ↦ r.0 k z ]), s)

pub order_rising : (ts : List ℕ) → Rising (in_order ts)
unfolding in_order Rising
order_rising [] = tt
order_rising (t ∷ ts) = place_rising t (in_order ts) (order_rising ts)

-- A minute in order is one of the minutes, and back.
order_has : (k : ℕ) (ts : List ℕ) → has k (in_order ts) ≡ has k ts
unfolding in_order
order_has k [] = refl
order_has k (t ∷ ts) = place_has k t (in_order ts) ∙ rw (order_has k ts)

-- ---- the minutes of points

module _ (g : ℕ → ℕ) where
  map_in : (n p q : ℕ) → p ≤ q → q < p + n → has (g q) (map g (from p n)) ≡ true
  unfolding from
  map_in zero p q a l = absurd (omega arith)
  map_in (suc n) p q a l =
      elim (eq-or-lt_of_le a) [ inl k ↦ rw k (has_head (g q) (map g (from (suc q) n))) | inr h ↦ has_rest (g q) (g p) (map g (from (suc p) n)) (map_in n (suc p) q h (omega arith)) ]

  map_out : (n p k : ℕ) → has k (map g (from p n)) ≡ true → (q : ℕ) × (q < p + n) × (g q ≡ k)
  unfolding from
  map_out zero p k h = clash (sym h)
  map_out (suc n) p k h =
      elim (split k (g p) (map g (from (suc p) n)) h) [
        | inl e ↦ (p, omega arith, sym e)
        | inr e ↦ let r = map_out n (suc p) k e in (r.0, omega (arith, r.1), r.2)
      ]

  -- The minute of each of n points is among them in order, and each of those is the minute of a point.
  pub minute_in_lem : (n q : ℕ) → q < n → has (g q) (in_order (map g (from 0 n))) ≡ true
  minute_in_lem n q l = order_has (g q) (map g (from 0 n)) ∙ map_in n 0 q (omega arith) (omega arith)

  pub minute_out : (n k : ℕ) → has k (in_order (map g (from 0 n))) ≡ true → (q : ℕ) × (q < n) × (g q ≡ k)
  minute_out n k h = let r = map_out n 0 k (sym (order_has k (map g (from 0 n))) ∙ h) in (r.0, omega (arith, r.1), r.2)

-- ---- neighbours

-- k is at most 100,000 past an earlier minute: one of the list, or one that is not past m
abbrev Past : ℕ → List ℕ → ℕ → Type 0
Past m ms k = (j : ℕ) × (j < k) × (k ≤ j + farthest) × ((j ≤ m) ⊎ (has j ms ≡ true))

near_past : (m : ℕ) (ms : List ℕ) → Rising (m ∷ ms) → Near (m ∷ ms) → (k : ℕ) → has k ms ≡ true → Past m ms k
unfolding Near first_or Rising
near_past m [] r w k h = clash (sym h)
near_past m (i ∷ ms) r w k h =
    elim (split k i ms h) [
      | inl e ↦ (m, omega (arith, r.0 k h), omega (arith, w.0), inl (omega arith))
      | inr e ↦ go e (near_past i ms r.1 w.1 k e)
    ]
  where
    go : has k ms ≡ true → Past i ms k → Past m (i ∷ ms) k
    go e (j, a, b, inl c) = (i, r.1.0 k e, omega arith, inr (has_head i ms))
    go e (j, a, b, inr c) = (j, a, b, inr (has_rest j i ms c))

past_near : (m : ℕ) (ms : List ℕ) → Rising (m ∷ ms) → ((k : ℕ) → has k ms ≡ true → Past m ms k) → Near (m ∷ ms)
unfolding Near first_or Rising
past_near m [] r f = (omega arith, tt)
past_near m (i ∷ ms) r f = (first (f i (has_head i ms)), past_near i ms r.1 (λ k h. later k h (f k (has_rest k i ms h))))
  where
    first : Past m (i ∷ ms) i → i ≤ m + farthest
    first (j, a, b, inl c) = omega arith
    first (j, a, b, inr c) = elim (split j i ms c) [ inl e ↦ omega arith | inr e ↦ absurd (omega (arith, r.1.0 j e)) ]

    later : (k : ℕ) → has k ms ≡ true → Past m (i ∷ ms) k → Past i ms k
    later k h (j, a, b, inl c) = (j, a, b, inl (omega (arith, r.0 i (has_head i ms))))
    later k h (j, a, b, inr c) = elim (split j i ms c) [ inl e ↦ (j, a, b, inl (omega arith)) | inr e ↦ (j, a, b, inr e) ]

-- k is at most 100,000 past 0, or past an earlier one of the list
abbrev Follows : List ℕ → ℕ → Type 0
Follows ms k = (k ≤ farthest) ⊎ ((j : ℕ) × (has j ms ≡ true) × (j < k) × (k ≤ j + farthest))

near_follows : (ms : List ℕ) → Rising ms → first_or 0 ms ≤ farthest → Near ms → (k : ℕ) → has k ms ≡ true → Follows ms k
unfolding first_or
near_follows [] r f w k h = clash (sym h)
near_follows (m ∷ ms) r f w k h = elim (split k m ms h) [ inl e ↦ inl (omega arith) | inr e ↦ go e (near_past m ms r w k e) ]
  where
    go : has k ms ≡ true → Past m ms k → Follows (m ∷ ms) k
    go e (j, a, b, inl c) = inr (m, has_head m ms, rising_first m ms r k e, omega arith)
    go e (j, a, b, inr c) = inr (j, has_rest j m ms c, a, b)

follows_near : (ms : List ℕ) → Rising ms → ((k : ℕ) → has k ms ≡ true → Follows ms k) → (first_or 0 ms ≤ farthest) × Near ms
unfolding first_or Near
follows_near [] r f = (omega arith, tt)
follows_near (m ∷ ms) r f = (first (f m (has_head m ms)), past_near m ms r (λ k h. later k h (f k (has_rest k m ms h))))
  where
    first : Follows (m ∷ ms) m → m ≤ farthest
    first (inl a) = a
    first (inr (j, h, a, b)) = elim (split j m ms h) [ inl e ↦ absurd (omega arith) | inr e ↦ absurd (omega (arith, rising_first m ms r j e)) ]

    later : (k : ℕ) → has k ms ≡ true → Follows (m ∷ ms) k → Past m ms k
    later k h (inl a) = (0, omega (arith, rising_first m ms r k h), a, inl (omega arith))
    later k h (inr (j, i, a, b)) = elim (split j m ms i) [ inl e ↦ (j, a, b, inl (omega arith)) | inr e ↦ (j, a, b, inr e) ]

-- the point X comes at most 100,000 past minute 0, or past an earlier one of n points
abbrev pub NearPoint : ℕ → (ℕ → ℕ) → ℕ → Type 0
NearPoint n g X = (g X ≤ farthest) ⊎ ((Y : ℕ) × (Y < n) × (g Y < g X) × (g X ≤ g Y + farthest))

module _ (n : ℕ) (g : ℕ → ℕ) where
  abbrev ms : List ℕ
  ms = in_order (map g (from 0 n))

  -- The first minute is at most 100,000 and no neighbours are further apart just where each point is so near.
  pub near_points : first_or 0 ms ≤ farthest → Near ms → (X : ℕ) → X < n → NearPoint n g X
  near_points f w X l = go (near_follows ms (order_rising _) f w (g X) (minute_in_lem g n X l))
    where
      go : Follows ms (g X) → NearPoint n g X
      go (inl a) = inl a
      go (inr (j, h, a, b)) = let r = minute_out g n j h in inr (r.0, r.1, omega (arith, r.2), omega (arith, r.2))

  pub points_near : ((X : ℕ) → X < n → NearPoint n g X) → (first_or 0 ms ≤ farthest) × Near ms
  points_near f = follows_near ms (order_rising _) (λ k h. let r = minute_out g n k h in go k r.0 r.2 (f r.0 r.1))
    where
      go : (k X : ℕ) → g X ≡ k → NearPoint n g X → Follows ms k
      go k X e (inl a) = inl (omega arith)
      go k X e (inr (Y, l, a, b)) = inr (g Y, minute_in_lem g n Y l, omega arith, omega arith)
