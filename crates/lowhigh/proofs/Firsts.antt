-- The first of some records that is so, by its place. Assumes nothing.
use mathlib.Core.Path.{◌≡◌, refl, sym, ap, ◌∙◌}
use mathlib.Core.Bool.{Bool, true, false, not, ◌||◌}
use mathlib.Core.List.{List, [], ◌∷◌, ◌++◌}
use Prim.Native.Nat.{ℕ, zero, suc, ◌+◌, ◌<◌}
use native.Mathlib.Omega.{arith}
use lib.ListN.{length, get_or}
use Rattle.std.specs.Prelude.{if◌then◌else◌, Some, None}
use Rattle.plan.specs.APlan.{some, blank}
use Rattle.records.specs.declared.Record.{Record}
use Rattle.history.proofs.Tests.{clash}
use Rattle.lowhigh.specs.Rules.{place_from, is_nothing, number_at}

-- the first record that is so, with a record more, where i is the place of the first of all
pub place_snoc : (i : ℕ) (so : Record → Bool) (rs : List Record) (r : Record)
    → number_at (place_from i so (rs ++ (r ∷ []))) ≡ (if some so rs then number_at (place_from i so rs) else (if so r then i + length rs else 0))
unfolding place_from some
place_snoc i so [] r = go (so r)
  where
    go : (t : Bool) → number_at (if t then Some i else None) ≡ (if t then i + 0 else 0)
    go true = omega arith
    go false = refl
place_snoc i so (x ∷ rs) r = go (so x) (place_snoc (suc i) so rs r)
  where
    more : i + suc (length rs) ≡ suc i + length rs
    more = omega arith

    go : (t : Bool) → number_at (place_from (suc i) so (rs ++ (r ∷ []))) ≡ (if some so rs then number_at (place_from (suc i) so rs) else (if so r then suc i + length rs else 0))
        → number_at (if t then Some i else place_from (suc i) so (rs ++ (r ∷ [])))
        ≡ (if t || some so rs then number_at (if t then Some i else place_from (suc i) so rs) else (if so r then i + suc (length rs) else 0))
    go true e = refl
    go false e = rw more e

-- no place where none is so
pub no_place : (i : ℕ) (so : Record → Bool) (rs : List Record) → some so rs ≡ false → place_from i so rs ≡ None
unfolding place_from some
no_place i so [] e = refl
no_place i so (x ∷ rs) e = go (so x) e (no_place (suc i) so rs)
  where
    go : (t : Bool) → (t || some so rs) ≡ false → (some so rs ≡ false → place_from (suc i) so rs ≡ None) → (if t then Some i else place_from (suc i) so rs) ≡ None
    go true e f = clash e
    go false e f = f e

-- there is no place exactly where none is so
pub nothing_so : (i : ℕ) (so : Record → Bool) (rs : List Record) → is_nothing (place_from i so rs) ≡ not (some so rs)
unfolding place_from some
nothing_so i so [] = refl
nothing_so i so (x ∷ rs) = go (so x) (nothing_so (suc i) so rs)
  where
    go : (t : Bool) → is_nothing (place_from (suc i) so rs) ≡ not (some so rs) → is_nothing (if t then Some i else place_from (suc i) so rs) ≡ not (t || some so rs)
    go true e = refl
    go false e = e

-- record k is so, and none before it is
pub record FirstSo (so : Record → Bool) (rs : List Record) (k : ℕ) : Type 0 where
  pub listed : k < length rs
  pub is_so : so (get_or rs k blank) ≡ true
  pub none_before : (j : ℕ) → j < k → so (get_or rs j blank) ≡ false

-- where one is so, its place is that of the first
pub place_first : (i : ℕ) (so : Record → Bool) (rs : List Record) → some so rs ≡ true → (k : ℕ) × (place_from i so rs ≡ Some (i + k)) × FirstSo so rs k
unfolding place_from some
place_first i so [] e = clash (sym e)
place_first i so (x ∷ rs) e = go (so x) refl e (place_first (suc i) so rs)
  where
    Goal : Bool → Type 0
    Goal t = (k : ℕ) × ((if t then Some i else place_from (suc i) so rs) ≡ Some (i + k)) × FirstSo so (x ∷ rs) k

    later : so x ≡ false → (k : ℕ) → FirstSo so rs k → (j : ℕ) → j < suc k → so (get_or (x ∷ rs) j blank) ≡ false
    later f k w zero h = f
    later f k w (suc j) h = w.none_before j (omega arith)

    go : (t : Bool) → so x ≡ t → (t || some so rs) ≡ true → (some so rs ≡ true → (k : ℕ) × (place_from (suc i) so rs ≡ Some (suc i + k)) × FirstSo so rs k) → Goal t
    go true f e w =
        let z : i ≡ i + 0 = omega arith in
        (0, ap Some z, record { listed = omega arith; is_so = f; none_before = λ j h. absurd (omega arith) })
    go false f e w =
        let r = w e in
        let z : suc i + r.0 ≡ i + suc r.0 = omega arith in
        (suc r.0, r.1 ∙ ap Some z, record { listed = omega (arith, r.2.listed); is_so = r.2.is_so; none_before = later f r.0 r.2 })
