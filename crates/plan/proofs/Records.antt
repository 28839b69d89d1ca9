-- The records that a loop over a plan passes: how many there are and which one is next. What one record more changes is
-- handed on from `records` and `rules`. Assumes nothing.
use mathlib.Core.Path.{◌≡◌}
use Prim.Native.Nat.{ℕ, ◌≤◌, ◌<◌, min}
use native.Mathlib.Omega.{arith}
use lib.ListN.{length, get_or, length-take}
use lib.Seq.{get_or-take}
use Rattle.plan.specs.Limits.{most_records}
use Rattle.plan.specs.APlan.{blank, records_of}
use Rattle.plan.specs.declared.Plan.{Plan}
pub use Rattle.records.proofs.Records.{many_snoc, some_snoc, first_not_lem, first_old, first_so, one_more, all_of}
pub use Rattle.rules.proofs.Shows.{last_snoc}

module _ (p : Plan) (room : length p.records ≡ most_records) where
  -- a plan has as many records as its count says and its room holds
  pub used_records : length (records_of p) ≡ min p.count most_records
  used_records = rw room at (length-take p.count p.records)

  pub record_at_lem : (i : ℕ) → i < min p.count most_records → get_or (records_of p) i blank ≡ get_or p.records i blank
  record_at_lem i h = get_or-take p.count p.records i blank (omega arith)

  -- what a loop over the first n records knows of the one at place i, and after the last
  module _ (n : ℕ) (all : n ≡ min p.count most_records) (i : ℕ) where
    pub next_record : i < n → (i < length (records_of p)) × (get_or (records_of p) i blank ≡ get_or p.records i blank)
    next_record h = (omega (arith, used_records), record_at_lem i (omega arith))

    pub last_record : n ≤ i → length (records_of p) ≤ i
    last_record h = omega (arith, used_records)
