-- Document 02, §2, "More constraints": what a raised limit of ordinary records leaves as it was, said of any two limits m and m'.
-- A reader with the limit m is `read_with m` and its writer `written_with m`: the rules are the same but for the limit, and what
-- follows from it. The room of a plan by value is as large as the limit that holds asks; unused room counts for nothing, so no
-- statement here is about it. Definitions only; assumes nothing.
use Rattle.std.specs.Prelude.{◌≡◌, true, List, ◌++◌, ℕ, ◌/◌, ◌≤◌, ◌<◌, length, take, drop, get_or}
use Rattle.plan.specs.Limits.{records_with, record_bytes}
use Rattle.plan.specs.APlan.{ordinary, is, how_many, blank, records_of}
use Rattle.plan.specs.ReplyNumbers.{refusal, refused, read_with, write_with, written_with, number_in, plan_in}
use Rattle.plan.specs.Held.{All, IsByte}
use Rattle.plan.specs.declared.Plan.{Plan}

-- the limit of document 01, before §2
abbrev pub old_ordinary : ℕ
old_ordinary = 256

-- two plans are the same when their records are
abbrev pub SamePlan : Plan → Plan → Type 0
SamePlan p q = (p.count ≡ q.count) × (records_of p ≡ records_of q)

-- "Old files read as before": what a reader with the limit m accepts, one with the limit m' accepts as the same plan
pub record ReadAsBefore (m m' : ℕ) (s : List ℕ) : Type 0 where
  pub accepted : number_in (read_with m' s) ≡ 0
  pub same : SamePlan (plan_in (read_with m' s)) (plan_in (read_with m s))

-- "and are written byte for byte as before": into any buffer, too short ones too; and the bytes are those that were read
pub record WrittenAsBefore (m m' : ℕ) (s out : List ℕ) : Type 0 where
  pub answer : write_with m' (plan_in (read_with m' s)) out ≡ write_with m (plan_in (read_with m s)) out
  pub bytes : written_with m' (plan_in (read_with m' s)) out ≡ written_with m (plan_in (read_with m s)) out
  pub file : length s ≤ length out → written_with m' (plan_in (read_with m' s)) out ≡ s ++ drop (length s) out

-- "a larger file": one with the limit m' accepts it, and it has more than m ordinary records
pub record Larger (m m' : ℕ) (s : List ℕ) : Type 0 where
  pub accepted : number_in (read_with m' s) ≡ 0
  pub more : m < how_many (is ordinary) (records_of (plan_in (read_with m' s)))

-- "A desk still on the old reader refuses a larger file with 3 or 6 and shows no part of it": 3 where there are more records
-- than the limit m has room for, else 6 at the ordinary record that has m others before it; either way a plan without records
pub data RefusedBefore (m m' : ℕ) (s : List ℕ) : Type 0 where
  three : records_with m < length s / record_bytes → read_with m s ≡ refused (refusal 3 0) → RefusedBefore m m' s
  six : (i : ℕ) → length s / record_bytes ≤ records_with m → i < length (records_of (plan_in (read_with m' s)))
      → is ordinary (get_or (records_of (plan_in (read_with m' s))) i blank) ≡ true
      → how_many (is ordinary) (take i (records_of (plan_in (read_with m' s)))) ≡ m → read_with m s ≡ refused (refusal 6 i) → RefusedBefore m m' s

-- all of it, for a limit m that was raised to m'
pub record OldFiles (m m' : ℕ) : Type 0 where
  pub read : (s : List ℕ) → number_in (read_with m s) ≡ 0 → ReadAsBefore m m' s
  pub written : (s : List ℕ) → All IsByte s → number_in (read_with m s) ≡ 0 → (out : List ℕ) → WrittenAsBefore m m' s out
  pub larger : (s : List ℕ) → Larger m m' s → RefusedBefore m m' s
