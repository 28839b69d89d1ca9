-- What every plan that a program can hold keeps, since its numbers fit the types of their fields (of a record, handed on from
-- `records`), and the few words more that the theorems on files and plans are said with. Definitions only. Assumes nothing.
use Rattle.std.specs.Prelude.{◌≡◌, List, ℕ, length}
use Rattle.plan.specs.Limits.{most_records}
use Rattle.plan.specs.APlan.{records_of}
use Rattle.plan.specs.ReplyNumbers.{Reading, refusal, number_in, place_in, plan_in, read_of}
use Rattle.plan.specs.declared.Plan.{Plan}
use Rattle.plan.specs.declared.Refusal.{Refusal}
pub use Rattle.numbers.specs.Fits.{All, IsByte}
pub use Rattle.records.specs.Held.{Held, plain}

-- the plan has all its room, and its numbers fit their types, as in every plan that a program can hold
pub record HeldPlan (p : Plan) : Type 0 where
  pub room : length p.records ≡ most_records
  pub each : All Held p.records

-- a reading's number and place
abbrev pub refusal_in : Reading → Refusal
refusal_in x = refusal (number_in x) (place_in x)

-- some file is accepted and reads back to the plan's records
abbrev pub HasFile : Plan → Type 0
HasFile p =
    (s : List ℕ) × All IsByte s × (number_in (read_of s) ≡ 0) × ((plan_in (read_of s)).count ≡ p.count) × (records_of (plan_in (read_of s)) ≡ records_of p)
