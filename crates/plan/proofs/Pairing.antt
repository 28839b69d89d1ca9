-- The entries of a plan by value, each with byte 3 zero: how many there are, which stands at a place, and what the check of the plan
-- is by them. Assumes nothing.
use mathlib.Core.Path.{◌≡◌, ◌∙◌}
use mathlib.Core.List.{List, [], map}
use Prim.Native.Nat.{ℕ, ◌≤◌, ◌<◌}
use native.Mathlib.Omega.{arith}
use lib.ListN.{length, get_or, length-map, get_or-map}
use lib.Seq.{length-take-le, get_or-take}
use borrow.Author.Tests.{ne_eqb, lt-ltb, le-ltb}
use Rattle.plan.specs.Limits.{most_records}
use Rattle.plan.specs.APlan.{blank, records_of}
use Rattle.plan.specs.PlanFile.{Entry}
use Rattle.plan.specs.ReplyNumbers.{refusal, first_bad, check_of, check_with}
use Rattle.plan.specs.Held.{plain}
use Rattle.plan.specs.declared.Plan.{Plan}

abbrev pub entries_of : Plan → List Entry
entries_of p = map plain (records_of p)

module _ (p : Plan) (few : p.count ≤ most_records) (room : length p.records ≡ most_records) where
  pub count_entries : length (entries_of p) ≡ p.count
  count_entries = length-map (records_of p) plain ∙ length-take-le p.count p.records (omega arith)

  pub entry_at : (i : ℕ) → i < p.count → get_or (entries_of p) i (plain blank) ≡ plain (get_or p.records i blank)
  entry_at i h = rw (get_or-map plain (records_of p) i blank, get_or-take p.count p.records i blank h)

-- the check of a plan: 1, 3, or its entries
module _ (p : Plan) where
  pub check_none : p.count ≡ 0 → refusal 1 0 ≡ check_of p
  unfolding check_with
  check_none e = rw e

  module _ (some : p.count ≡ 0 → ⊥) where
    pub check_long : most_records < p.count → refusal 3 0 ≡ check_of p
    unfolding check_with
    check_long h = rw (ne_eqb _ 0 some, lt-ltb most_records p.count h)

    pub check_each : p.count ≤ most_records → first_bad [] (entries_of p) ≡ check_of p
    unfolding check_with
    check_each h = rw (ne_eqb _ 0 some, le-ltb most_records p.count h)
