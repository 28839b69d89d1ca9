-- A word's bytes as they go by. Assumes nothing.
use mathlib.Core.Path.{◌≡◌, refl, sym}
use mathlib.Core.List.{List, [], ◌∷◌, ◌++◌}
use Prim.Native.Nat.{ℕ, ◌+◌, ◌≤◌, ◌<◌}
use native.Mathlib.Omega.{arith}
use native.Mathlib.Numerals.{add-one}
use lib.ListN.{length, take, get_or}
use lib.Seq.{take-suc, take_all}
use Rattle.numbers.specs.Fits.{All, IsByte}
use Rattle.values.specs.Inside.{fresh, with, with_all}
use Rattle.values.specs.declared.Seen.{Seen}

with_last : (s : Seen) (f : List ℕ) (c : ℕ) → with_all s (f ++ (c ∷ [])) ≡ with (with_all s f) c
unfolding with_all
with_last s [] c = refl
with_last s (d ∷ f) c = with_last (with s d) f c

bytes_last : (f : List ℕ) (c : ℕ) → All IsByte f → IsByte c → All IsByte (f ++ (c ∷ []))
bytes_last [] c a b = (b, tt)
bytes_last (d ∷ f) c a b = (a.0, bytes_last f c a.1 b)

-- what is known of the first i bytes of a word, and that they are bytes
pub record Known (f : List ℕ) (i : ℕ) (s : Seen) : Type 0 where
  pub within : i ≤ length f
  pub seen : s ≡ with_all fresh (take i f)
  pub bytes : All IsByte (take i f)

pub known_none : (f : List ℕ) → Known f 0 fresh
unfolding with_all
known_none f = record { within = omega arith; seen = refl; bytes = tt }

pub known_more : (f : List ℕ) (i : ℕ) (s : Seen) → i < length f → Known f i s → get_or f i 0 ≤ 255 → Known f (i + 1) (with s (get_or f i 0))
known_more f i s h k b =
    let e : take (i + 1) f ≡ take i f ++ (get_or f i 0 ∷ []) = rw (add-one i) (take-suc f i 0 h) in
    record {
      within = omega arith;
      seen = rw (e, k.seen) (sym (with_last fresh (take i f) (get_or f i 0)));
      bytes = rw e (bytes_last (take i f) (get_or f i 0) k.bytes (omega arith));
    }

pub known_all : (f : List ℕ) (i : ℕ) (s : Seen) → Known f i s → length f ≤ i → (s ≡ with_all fresh f) × All IsByte f
known_all f i s k h =
    let e : take i f ≡ f = take_all i f h in
    (rw e at k.seen, rw e at k.bytes)
