-- A projection by its number: the number's digits are the durations. Assumes nothing.
use mathlib.Core.Path.{◌≡◌, refl, sym, ap, ◌∙◌}
use mathlib.Core.List.{List, [], ◌∷◌, ◌++◌}
use Prim.Native.Nat.{ℕ, zero, suc, ◌+◌, ◌-◌, ◌*◌, ◌/◌, ◌%◌, ◌<◌, ◌≤◌}
use native.Mathlib.Omega.{arith}
use native.Mathlib.Decide.{dec_lt}
use native.Mathlib.Nat.{suc-mul, mul-zero, mod-lt, mod-eq_of_lt, mod-eq-sub-mod, div-eq_of_lt, div-eq-sub-div}
use lib.ListN.{length, get_or, set, get_or-append}
use lib.Seq.{get_or-append-add}
use Rattle.vee.specs.PlanTest.{Span, spread, projections, many}
use Rattle.vee.proofs.Walks.{as_many}
use Rattle.choices.specs.Choices.{chosen}

-- There are as many projections as the product of the durations.
pub numbered : (ls : List Span) (u : List ℕ) → length (projections ls u) ≡ many ls
numbered = as_many

-- number i of what is spread, where each duration has m that follow it
spread_at : (f : List ℕ → List (List ℕ)) (m : ℕ) → 0 < m → ((u : List ℕ) → length (f u) ≡ m) → (C p k : ℕ) (u : List ℕ) (i : ℕ) → i < k * m
    → get_or (spread f C p k u) i [] ≡ get_or (f (set u C (p + i / m))) (i % m) []
unfolding spread
spread_at f m some long C p zero u i h = absurd (omega arith)
spread_at f m some long C p (suc k) u i h = go (dec_lt i m) (λ l. spread_at f m some long C (suc p) k u (i - m) (omega (arith, rw suc-mul at h)))
  where
    go : Dec (i < m) → (m ≤ i → get_or (spread f C (suc p) k u) (i - m) [] ≡ get_or (f (set u C (suc p + (i - m) / m))) ((i - m) % m) [])
        → get_or (f (set u C p) ++ spread f C (suc p) k u) i [] ≡ get_or (f (set u C (p + i / m))) (i % m) []
    go (yes l) on =
        let a : p + i / m ≡ p = omega (arith, div-eq_of_lt l) in
        rw (a, mod-eq_of_lt l) (get_or-append (f (set u C p)) (spread f C (suc p) k u) [] i (omega (arith, long (set u C p))))
    go (no l) on =
        let a : p + i / m ≡ suc p + (i - m) / m = omega (arith, div-eq-sub-div {m = m} {n = i} some (omega arith)) in
        let b : i % m ≡ (i - m) % m = mod-eq-sub-mod {n = i} {m = m} (omega arith) in
        let c : length (f (set u C p)) + (i - m) ≡ i = omega (arith, long (set u C p)) in
        rw (a, b) (ap (λ (j : ℕ). get_or (f (set u C p) ++ spread f C (suc p) k u) j []) (sym c)
        ∙ get_or-append-add (f (set u C p)) (spread f C (suc p) k u) (i - m) [] ∙ on (omega arith))

-- where there are any, there are some for each link's duration
pub some_left : (a m i : ℕ) → i < a * m → 0 < m
some_left a zero i h = absurd (omega (arith, rw (mul-zero a) at h))
some_left a (suc m) i h = omega arith

-- Projection number i, of those that there are, is the one that its digits choose.
pub projection_chosen : (ls : List Span) (u : List ℕ) (i : ℕ) → i < many ls → get_or (projections ls u) i [] ≡ chosen ls u i
unfolding projections many chosen
projection_chosen [] u zero h = refl
projection_chosen [] u (suc i) h = absurd (omega arith)
projection_chosen (l ∷ ls) u i h =
    let some = some_left (suc l.most - l.least) (many ls) i h in
    spread_at (projections ls) (many ls) some (as_many ls) l.over l.least (suc l.most - l.least) u i h
    ∙ projection_chosen ls (set u l.over (l.least + i / many ls)) (i % many ls) (mod-lt i some)
