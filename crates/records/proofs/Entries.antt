-- Some records and the bytes of them all, and the entries that some bytes stand for. Assumes only that the numbers fit their
-- types.
use mathlib.Core.Path.{◌≡◌, refl, ap, sym, ◌∙◌}
use mathlib.Core.List.{List, [], ◌∷◌, ◌++◌, map}
use Prim.Native.Nat.{ℕ, zero, suc, ◌*◌}
use native.Mathlib.Omega.{arith}
use lib.ListN.{length, take, drop, length-append, length-drop, take-append-drop}
use Rattle.numbers.specs.Fits.{All, IsByte}
use Rattle.records.specs.Limits.{record_bytes}
use Rattle.records.specs.Bytes.{Entry, entries_in, bytes_of, all_bytes}
use Rattle.records.specs.Held.{Held, plain}
use Rattle.records.specs.declared.Record.{Record}
use Rattle.records.proofs.Bytes.{record_back, bytes_back}

-- What holds of every one of some lists holds of every one of their join, of a front and of a rest.
module _ {A : Type 0} (so : A → Type 0) where
  pub all_append : (xs ys : List A) → All so xs → All so ys → All so (xs ++ ys)
  all_append [] ys g h = h
  all_append (x ∷ xs) ys g h = (g.0, all_append xs ys g.1 h)

  pub all_take : (n : ℕ) (xs : List A) → All so xs → All so (take n xs)
  all_take zero xs h = tt
  all_take (suc n) [] h = tt
  all_take (suc n) (x ∷ xs) h = (h.0, all_take n xs h.1)

  pub all_drop : (n : ℕ) (xs : List A) → All so xs → All so (drop n xs)
  all_drop zero xs h = h
  all_drop (suc n) [] h = tt
  all_drop (suc n) (x ∷ xs) h = all_drop n xs h.1

-- ---- bytes of records

-- The bytes of some records are sixteen for each.
pub length_bytes : (rs : List Record) → length (all_bytes rs) ≡ record_bytes * length rs
unfolding all_bytes bytes_of
length_bytes [] = refl
length_bytes (r ∷ rs) = rw length-append (omega (arith, length_bytes rs))

-- The bytes of some records stand for those records, each with byte 3 zero, whatever follows them.
pub entries_back : (rs : List Record) → All Held rs → (rest : List ℕ) → entries_in (length rs) (all_bytes rs ++ rest) ≡ map plain rs
unfolding entries_in all_bytes bytes_of
entries_back [] h rest = refl
entries_back (r ∷ rs) h rest =
    λ i. record { what = record_back r h.0 (all_bytes rs ++ rest) i; reserved = 0 } ∷ entries_back rs h.1 rest i

-- The bytes of records that a program can hold are bytes.
pub all_are_bytes : (rs : List Record) → All Held rs → All IsByte (all_bytes rs)
unfolding all_bytes bytes_of
all_are_bytes [] h = tt
all_are_bytes (r ∷ rs) h = all_append IsByte (bytes_of r) (all_bytes rs) (omega arith) (all_are_bytes rs h.1)

-- ---- entries

-- byte 3 is zero
abbrev pub IsPlain : Entry → Type 0
IsPlain e = e.reserved ≡ 0

-- Entries with byte 3 zero are their records, each with byte 3 zero.
pub plains : (es : List Entry) → All IsPlain es → map plain (map (λ (e : Entry). e.what) es) ≡ es
plains [] h = refl
plains (e ∷ es) h = λ i. record { what = e.what; reserved = sym h.0 i } ∷ plains es h.1 i

-- The records of some records with byte 3 zero are those.
pub whats : (rs : List Record) → map (λ (e : Entry). e.what) (map plain rs) ≡ rs
whats [] = refl
whats (r ∷ rs) = ap (λ (t : List Record). r ∷ t) (whats rs)

-- n entries are n.
pub length_entries : (n : ℕ) (s : List ℕ) → length (entries_in n s) ≡ n
unfolding entries_in
length_entries zero s = refl
length_entries (suc n) s = ap suc (length_entries n (drop record_bytes s))

-- Bytes of n whole records, each with byte 3 zero, are the bytes of the records that they stand for.
pub bytes_again : (n : ℕ) (s : List ℕ) → All IsByte s → length s ≡ record_bytes * n → All IsPlain (entries_in n s)
    → all_bytes (map (λ (e : Entry). e.what) (entries_in n s)) ≡ s
unfolding entries_in all_bytes
bytes_again zero [] b l h = refl
bytes_again zero (x ∷ s) b l h = absurd (omega arith)
bytes_again (suc n) s b l h =
    let m : length (drop record_bytes s) ≡ record_bytes * n = rw length-drop (omega arith) in
    (λ i. bytes_back s b (omega arith) h.0 i ++ bytes_again n (drop record_bytes s) (all_drop IsByte record_bytes s b) m h.1 i)
    ∙ take-append-drop record_bytes s
