-- A record and its sixteen bytes: each goes over and comes back the same. Assumes only that the numbers fit their types.
use mathlib.Core.Path.{◌≡◌, refl, ap, sym, ◌∙◌}
use mathlib.Core.List.{List, [], ◌∷◌, ◌++◌}
use Prim.Native.Nat.{ℕ, zero, suc, ◌≤◌}
use native.Mathlib.Omega.{arith}
use lib.ListN.{length, take, get_or}
use Rattle.numbers.specs.Fits.{All, IsByte}
use Rattle.numbers.specs.Numbers.{bits_of}
use Rattle.numbers.proofs.Words.{word_back, bits_fit, signed_bits, four, four_signed}
use Rattle.records.specs.Limits.{record_bytes}
use Rattle.records.specs.Bytes.{record_in, bytes_of}
use Rattle.records.specs.Held.{Held}
use Rattle.records.specs.declared.Record.{Record}

-- The sixteen bytes of a record stand for that record, whatever follows them.
pub record_back : (r : Record) → Held r → (rest : List ℕ) → record_in (bytes_of r ++ rest) ≡ r
unfolding bytes_of
record_back r h rest =
    rw (
      word_back (bits_of r.first) (bits_fit r.first h.first) [],
      word_back (bits_of r.second) (bits_fit r.second h.second) [],
      word_back r.code h.code [],
      signed_bits r.first h.first,
      signed_bits r.second h.second,
    )

abbrev listed : ℕ → (ℕ → ℕ) → List ℕ
listed zero f = []
listed (suc n) f = f zero ∷ listed n (λ i. f (suc i))

take_listed : (n : ℕ) (s : List ℕ) → n ≤ length s → take n s ≡ listed n (λ i. get_or s i 0)
take_listed zero s h = refl
take_listed (suc n) [] h = absurd (omega arith)
take_listed (suc n) (x ∷ s) h = ap (λ (t : List ℕ). x ∷ t) (take_listed n s (omega arith))

-- Sixteen bytes, of which byte 3 is 0, are the bytes of the record that they stand for.
pub bytes_back : (s : List ℕ) → All IsByte s → record_bytes ≤ length s → get_or s 3 0 ≡ 0 → bytes_of (record_in s) ≡ take record_bytes s
unfolding bytes_of
bytes_back s h l z =
    (λ j. get_or s 0 0 ∷ get_or s 1 0 ∷ get_or s 2 0 ∷ sym z j ∷ (four_signed s h 4 j ++ (four_signed s h 8 j ++ four s h 12 j)))
    ∙ sym (take_listed record_bytes s l)
