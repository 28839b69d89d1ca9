-- What every record that a program can hold keeps, since its numbers fit the types of their fields, and a record as
-- a written one is. Assumes nothing.
use Rattle.std.specs.Prelude.{◌<◌, ◌^◌}
use Rattle.std.specs.Int.Signed.{mag}
use Rattle.numbers.specs.Fits.{IsByte}
use Rattle.records.specs.Bytes.{Entry}
use Rattle.records.specs.declared.Record.{Record}

-- the record's numbers fit the types of its fields, as in every record that a program can hold
pub record Held (r : Record) : Type 0 where
  pub kind : IsByte r.kind
  pub a : IsByte r.a
  pub b : IsByte r.b
  pub first : mag r.first < 2 ^ 31
  pub second : mag r.second < 2 ^ 31
  pub code : r.code < 2 ^ 32

-- the record with byte 3 zero, as a written one is
abbrev pub plain : Record → Entry
plain r = record { what = r; reserved = 0 }
