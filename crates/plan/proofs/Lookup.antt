-- The loops that look something up in a plan: how many records are so, and the first that is so.
-- Assumes nothing.
use mathlib.Core.Path.{◌≡◌, refl}
use mathlib.Core.Bool.{Bool, true, false, ◌||◌}
use mathlib.Core.List.{List, [], ◌∷◌}
use Prim.Native.Nat.{ℕ, suc, ◌+◌, ◌≤◌, ◌<◌}
use native.Mathlib.Omega.{arith}
use native.Mathlib.Numerals.{add-one}
use lib.ListN.{length, take, drop, get_or, length-take, drop_of_length-le}
use lib.Seq.{take-suc, drop-cons, take_all}
use Rattle.std.specs.Prelude.{if◌then◌else◌, Some, None, is_some}
use Rattle.plan.specs.APlan.{blank, one, how_many, some, place_from}
use Rattle.plan.proofs.Records.{many_snoc}
use Rattle.records.proofs.Records.{many_le}
use Rattle.records.specs.declared.Record.{Record}

-- how many of the first i records are so
module _ (so : Record → Bool) (rs : List Record) (i : ℕ) where
  pub counted_more : i < length rs → how_many so (take i rs) + one (so (get_or rs i blank)) ≡ how_many so (take (i + 1) rs)
  counted_more h = rw (add-one i, take-suc rs i blank h, many_snoc so (take i rs) (get_or rs i blank))

  pub counted_few : i ≤ length rs → how_many so (take i rs) ≤ i
  counted_few h = omega (arith, many_le so (take i rs), length-take i rs)

  pub counted_end : length rs ≤ i → how_many so (take i rs) ≡ how_many so rs
  counted_end h = rw (take_all i rs h)

-- the first record that is so, from place i on
module _ (so : Record → Bool) (rs : List Record) (i : ℕ) where
  pub found_here : i < length rs → so (get_or rs i blank) ≡ true → Some i ≡ place_from i so (drop i rs)
  unfolding place_from
  found_here h e = rw (drop-cons rs i blank h, e)

  pub found_later : i < length rs → so (get_or rs i blank) ≡ false → place_from i so (drop i rs) ≡ place_from (i + 1) so (drop (i + 1) rs)
  unfolding place_from
  found_later h e = rw (drop-cons rs i blank h, e, add-one i)

  pub found_nowhere : length rs ≤ i → None ≡ place_from i so (drop i rs)
  unfolding place_from
  found_nowhere h = rw (drop_of_length-le rs h)

-- one is so where the first that is so has a place
pub found_some : (so : Record → Bool) (i : ℕ) (rs : List Record) → is_some (place_from i so rs) ≡ some so rs
unfolding place_from some
found_some so i [] = refl
found_some so i (r ∷ rs) = by_test (so r) (found_some so (suc i) rs)
  where
    by_test : (b : Bool) → is_some (place_from (suc i) so rs) ≡ some so rs → is_some (if b then Some i else place_from (suc i) so rs) ≡ (b || some so rs)
    by_test true e = refl
    by_test false e = e
