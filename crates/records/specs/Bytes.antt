-- Document 01, "Plan file": bytes and the records that they stand for, both ways. Assumes nothing.
use Rattle.std.specs.Prelude.{List, [], ◌∷◌, ◌++◌, ℕ, zero, suc, get_or, drop}
use Rattle.numbers.specs.Numbers.{word_at, word_bytes, signed_of, bits_of}
use Rattle.records.specs.Limits.{record_bytes}
use Rattle.records.specs.declared.Record.{Record}

-- the record that the first sixteen bytes of s stand for
abbrev pub record_in : List ℕ → Record
record_in s =
    record {
      kind = get_or s 0 0;
      a = get_or s 1 0;
      b = get_or s 2 0;
      first = signed_of (word_at s 4);
      second = signed_of (word_at s 8);
      code = word_at s 12;
    }

-- sixteen bytes: the record, and byte 3, which no record has
pub record Entry : Type 0 where
  pub what : Record
  pub reserved : ℕ

-- the n entries that the bytes s stand for
unfoldable pub entries_in : ℕ → List ℕ → List Entry
entries_in zero s = []
entries_in (suc n) s = record { what = record_in s; reserved = get_or s 3 0 } ∷ entries_in n (drop record_bytes s)

-- the sixteen bytes of a record
unfoldable pub bytes_of : Record → List ℕ
bytes_of r =
    r.kind ∷ r.a ∷ r.b ∷ 0 ∷ (word_bytes (bits_of r.first) ++ (word_bytes (bits_of r.second) ++ word_bytes r.code))

-- the bytes of some records, one after the other
unfoldable pub all_bytes : List Record → List ℕ
all_bytes [] = []
all_bytes (r ∷ rs) = bytes_of r ++ all_bytes rs
