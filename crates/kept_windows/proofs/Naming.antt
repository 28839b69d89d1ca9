-- The records that hold the points: there is a table of all of them, and what one point's record in every place says of that point.
-- Assumes nothing.
use mathlib.Core.Path.{◌≡◌, refl, ◌∙◌, sym, ap}
use mathlib.Core.List.{List, map}
use Prim.Native.Nat.{ℕ, zero, suc, ◌+◌, ◌%◌, ◌<◌}
use native.Mathlib.Omega.{arith}
use native.Mathlib.Decide.{dec_lt}
use lib.ListN.{length, get_or, replicate, length-replicate, length-map, get_or-replicate, get_or-eq_default}
use Rattle.points.specs.Sets.{from}
use Rattle.plan.specs.Limits.{most_points}
use Rattle.windows.specs.declared.Windows.{Windows}
use Rattle.kept_windows.specs.Answers.{holder_at, HoldersOf, with_holders}

from_long : (n p : ℕ) → length (from p n) ≡ n
unfolding from
from_long zero p = refl
from_long (suc n) p = ap suc (from_long n (suc p))

map_at : (f : ℕ → ℕ) (n p i : ℕ) → i < n → get_or (map f (from p n)) i 0 ≡ f (p + i)
unfolding from
map_at f zero p i h = absurd (omega arith)
map_at f (suc n) p zero h = let e : p + 0 ≡ p = omega arith in rw e
map_at f (suc n) p (suc i) h = let e : p + suc i ≡ suc p + i = omega arith in rw e (map_at f n (suc p) i (omega arith))

-- the table of all: no code makes it where only one point is asked for
abbrev pub all : List ℕ → List ℕ → List ℕ → List ℕ
all rows out kept = map (holder_at rows out kept) (from 0 most_points)

pub all_holders : (rows out kept : List ℕ) → HoldersOf rows out kept (all rows out kept)
all_holders rows out kept =
    record {
      long = length-map (from 0 most_points) (holder_at rows out kept) ∙ from_long most_points 0;
      each = λ q h. let z : 0 + q ≡ q = omega arith in rw z at (map_at (holder_at rows out kept) most_points 0 q h);
    }

-- the record that holds p, in every place, is at p what the table of all has there
pub same_holder : (rows out kept t : List ℕ) → HoldersOf rows out kept t → (p : ℕ) → get_or (replicate most_points (holder_at rows out kept (p % most_points))) p 0 ≡ get_or t p 0
same_holder rows out kept t x p = go (holder_at rows out kept (p % most_points)) refl (dec_lt p most_points)
  where
    go : (h : ℕ) → h ≡ holder_at rows out kept (p % most_points) → Dec (p < most_points) → get_or (replicate most_points h) p 0 ≡ get_or t p 0
    go h e (yes l) =
        let m : p % most_points ≡ p = omega arith in
        get_or-replicate {A = ℕ} most_points p h 0 l ∙ (rw m at e) ∙ sym (x.each p l)
    go h e (no n) =
        let a : get_or (replicate most_points h) p 0 ≡ 0 = get_or-eq_default (replicate most_points h) 0 {n = p} (omega (arith, length-replicate {A = ℕ} most_points h)) in
        let b : get_or t p 0 ≡ 0 = get_or-eq_default t 0 (omega (arith, x.long)) in
        a ∙ sym b

-- windows with that record in every place
pub named_by : (rows out kept : List ℕ) (w v : Windows) (p h : ℕ) → h ≡ holder_at rows out kept (p % most_points) → v ≡ with_holders w (replicate most_points h)
    → v ≡ with_holders w (replicate most_points (holder_at rows out kept (p % most_points)))
named_by rows out kept w v p h e f = f ∙ ap (λ (k : ℕ). with_holders w (replicate most_points k)) e
