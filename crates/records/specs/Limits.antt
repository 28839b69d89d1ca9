-- The limits of document 01, with document 02, §2, for ordinary records, one name for each. The code has the same names in capitals,
-- and nothing else says their digits. Assumes nothing.
use Rattle.std.specs.Prelude.{ℕ, ◌+◌}

abbrev pub most_points : ℕ
most_points = 32

abbrev pub most_links : ℕ
most_links = 8

abbrev pub most_ordinary : ℕ
most_ordinary = 1_024

abbrev pub most_waits : ℕ
most_waits = 64

-- a file has room for as many records as there can be of all four kinds, where m of them may be ordinary
abbrev pub records_with : ℕ → ℕ
records_with m = most_points + most_links + m + most_waits

abbrev pub most_records : ℕ
most_records = records_with most_ordinary

-- no duration and no bound is further from 0 than this
abbrev pub farthest : ℕ
farthest = 100_000

-- how many bytes a record of a plan file has
abbrev pub record_bytes : ℕ
record_bytes = 16
