-- Some records and one record more: how many are so, whether one is, and the first that is. Assumes nothing.
use mathlib.Core.Path.{◌≡◌, refl}
use mathlib.Core.Bool.{Bool, true, false, ◌||◌}
use mathlib.Core.List.{List, [], ◌∷◌, ◌++◌}
use Prim.Native.Nat.{ℕ, ◌+◌, ◌≤◌, ◌<◌}
use native.Mathlib.Omega.{arith}
use native.Mathlib.Numerals.{add-one}
use lib.ListN.{length, take, get_or}
use lib.Seq.{take-suc, take_all}
use Rattle.std.specs.Prelude.{if◌then◌else◌}
use Rattle.records.specs.Records.{blank, one, how_many, some, first_that}
use Rattle.records.specs.declared.Record.{Record}

-- how many are so, with a record more
pub many_snoc : (so : Record → Bool) (rs : List Record) (r : Record) → how_many so (rs ++ (r ∷ [])) ≡ how_many so rs + one (so r)
unfolding how_many
many_snoc so [] r = omega arith
many_snoc so (x ∷ rs) r = omega (arith, many_snoc so rs r)

-- no more are so than there are
one_le : (b : Bool) → one b ≤ 1
one_le true = omega arith
one_le false = omega arith

pub many_le : (so : Record → Bool) (rs : List Record) → how_many so rs ≤ length rs
unfolding how_many
many_le so [] = omega arith
many_le so (r ∷ rs) = omega (arith, many_le so rs, one_le (so r))

or_swap : (a b c : Bool) → (a || (b || c)) ≡ (b || (a || c))
or_swap true true c = refl
or_swap true false c = refl
or_swap false true c = refl
or_swap false false c = refl

-- one of the records is so, with a record more
pub some_snoc : (so : Record → Bool) (rs : List Record) (r : Record) → some so (rs ++ (r ∷ [])) ≡ (so r || some so rs)
unfolding some
some_snoc so [] r = refl
some_snoc so (x ∷ rs) r = rw (some_snoc so rs r) (or_swap (so x) (so r) (some so rs))

-- a record that is not so changes nothing for the first that is, and neither does one after another that is so
pub first_not_lem : (so : Record → Bool) (rs : List Record) (r : Record) → so r ≡ false → first_that so (rs ++ (r ∷ [])) ≡ first_that so rs
unfolding first_that
first_not_lem so [] r h = rw h
first_not_lem so (x ∷ rs) r h = rw (first_not_lem so rs r h)

pub first_old : (so : Record → Bool) (rs : List Record) (r : Record) → some so rs ≡ true → first_that so (rs ++ (r ∷ [])) ≡ first_that so rs
unfolding first_that some
first_old so [] r h = absurd (let z : ◌≡◌ {A = ℕ} 0 1 = cc in omega arith)
first_old so (x ∷ rs) r h = by_test (so x) h (first_old so rs r)
  where
    by_test : (b : Bool) → (b || some so rs) ≡ true → (some so rs ≡ true → first_that so (rs ++ (r ∷ [])) ≡ first_that so rs)
        → (if b then x else first_that so (rs ++ (r ∷ []))) ≡ (if b then x else first_that so rs)
    by_test true h f = refl
    by_test false h f = f h

-- one that is so is the first where none was before
pub first_so : (so : Record → Bool) (rs : List Record) (r : Record) → some so rs ≡ false → so r ≡ true → first_that so (rs ++ (r ∷ [])) ≡ r
unfolding first_that some
first_so so [] r h e = rw e
first_so so (x ∷ rs) r h e = by_test (so x) h (first_so so rs r)
  where
    by_test : (b : Bool) → (b || some so rs) ≡ false → (some so rs ≡ false → so r ≡ true → first_that so (rs ++ (r ∷ [])) ≡ r)
        → (if b then x else first_that so (rs ++ (r ∷ []))) ≡ r
    by_test true h f = absurd (let z : ◌≡◌ {A = ℕ} 0 1 = cc in omega arith)
    by_test false h f = f h e

-- the first i + 1 records, and all of them
module _ (rs : List Record) (i : ℕ) where
  pub one_more : i < length rs → take (i + 1) rs ≡ take i rs ++ (get_or rs i blank ∷ [])
  one_more h = rw (add-one i, take-suc rs i blank h)

  pub all_of : length rs ≤ i → take i rs ≡ rs
  all_of h = take_all i rs h
