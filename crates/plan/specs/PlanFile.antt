-- Document 01, "Plan file": the bytes of a plan. Records and their bytes are handed on from `records`, and numbers in four bytes
-- from `numbers`. Assumes nothing.
use Rattle.std.specs.Prelude.{List, ℕ}
use Rattle.plan.specs.APlan.{records_of}
use Rattle.plan.specs.declared.Plan.{Plan}
pub use Rattle.numbers.specs.Numbers.{word_at, word_bytes, signed_of, bits_of}
pub use Rattle.records.specs.Bytes.{record_in, Entry}
unfoldable pub use Rattle.records.specs.Bytes.{entries_in, bytes_of, all_bytes}

-- a plan's file
abbrev pub file_of : Plan → List ℕ
file_of p = all_bytes (records_of p)
