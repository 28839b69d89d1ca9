-- What a readable field says fits its place in a record. Assumes nothing.
use mathlib.Core.Path.{◌≡◌}
use mathlib.Core.Bool.{Bool, true, false, ◌||◌}
use mathlib.Core.List.{List}
use Prim.Native.Nat.{ℕ, ◌^◌, ◌<◌}
use native.Mathlib.Omega.{arith}
use lib.IntN.{ℤ, pos, negsuc}
use lib.Signed.{mag, le_z, lt_z}
use borrow.Author.Tests.{ltb-true}
use Rattle.std.specs.Prelude.{if◌then◌else◌}
use Rattle.numbers.specs.Fits.{IsByte}
use Rattle.values.specs.Values.{same, point_word, link_word, ordinary_word, wait_word, kind_of, is_empty, is_decimal, number_of, is_number, is_point, point_of, is_shaped, shaped_code, is_code, code_of}
use Rattle.values.proofs.Tests.{both}
use Rattle.values.proofs.Codes.{code_bounds}

pub kind_fits : (f : List ℕ) → IsByte (kind_of f)
unfolding kind_of
kind_fits f = go (same f point_word) (same f link_word) (same f ordinary_word) (same f wait_word)
  where
    go : (a b c d : Bool) → (if a then 1 else (if b then 2 else (if c then 3 else (if d then 4 else 0)))) < 256
    go true b c d = omega arith
    go false true c d = omega arith
    go false false true d = omega arith
    go false false false true = omega arith
    go false false false false = omega arith

pub point_fits : (f : List ℕ) → is_point f ≡ true → IsByte (point_of f)
point_fits f e = let b = both (le_z (pos 0) (number_of f)) _ (both (is_decimal f) _ e).1 in go (number_of f) b.0 b.1
  where
    go : (z : ℤ) → le_z (pos 0) z ≡ true → lt_z z (pos 256) ≡ true → mag z < 256
    go (pos n) p q = ltb-true n 256 q
    go (negsuc n) p q = absurd (let z : ◌≡◌ {A = ℕ} 0 1 = cc in omega arith)

pub number_fits : (f : List ℕ) → is_number f ≡ true → mag (number_of f) < 2 ^ 31
number_fits f e = ltb-true (mag (number_of f)) (2 ^ 31) (both (is_decimal f) _ e).1

pub code_fits : (f : List ℕ) → is_code f ≡ true → code_of f < 2 ^ 32
code_fits f e = go (is_empty f) e
  where
    go : (b : Bool) → (b || is_shaped f) ≡ true → (if b then 0 else shaped_code f) < 2 ^ 32
    go true p = omega arith
    go false p = let c = code_bounds f p in omega (arith, c.1)
