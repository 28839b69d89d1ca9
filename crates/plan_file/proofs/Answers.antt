-- What reading a file answers, one law for each way out: the tests that led there, and the answer x that the code gives. Assumes nothing.
use mathlib.Core.Path.{◌≡◌, ap}
use Prim.Native.Nat.{ℕ, ◌/◌, ◌%◌, ◌≤◌, ◌<◌}
use native.Mathlib.Omega.{arith}
use mathlib.Core.List.{List, []}
use lib.ListN.{length}
use Rattle.std.specs.Prelude.{Ok}
use borrow.Author.Tests.{eq-eqb, ne_eqb, lt-ltb, le-ltb}
use Rattle.plan.specs.Limits.{most_records, record_bytes}
use Rattle.plan.specs.APlan.{plan_of}
use Rattle.plan.specs.PlanFile.{entries_in}
use Rattle.plan_file.specs.Inside.{records_in}
use Rattle.plan.specs.ReplyNumbers.{Reading, refusal, refused, taken, first_bad, read_with, read_of}
use Rattle.plan.specs.declared.Plan.{Plan}
use Rattle.plan.specs.declared.Refusal.{Refusal}

module _ (s : List ℕ) where
  abbrev count : ℕ
  count = length s / record_bytes

  pub read_none : length s ≡ 0 → (x : Reading) → x ≡ refused (refusal 1 0) → x ≡ read_of s
  unfolding read_with
  read_none e x a = rw (eq-eqb (length s) 0 e) a

  pub read_part : 1 ≤ length s → 1 ≤ length s % record_bytes → (x : Reading) → x ≡ refused (refusal 2 0) → x ≡ read_of s
  unfolding read_with
  read_part n r x a = rw (ne_eqb (length s) 0 (omega arith), ne_eqb (length s % record_bytes) 0 (omega arith)) a

  module _ (n : 1 ≤ length s) (w : length s % record_bytes ≡ 0) where
    pub read_long : most_records < count → (x : Reading) → x ≡ refused (refusal 3 0) → x ≡ read_of s
    unfolding read_with
    read_long l x a = rw (ne_eqb (length s) 0 (omega arith), eq-eqb (length s % record_bytes) 0 w, lt-ltb most_records count l) a

    -- f is what the code found of the records
    module _ (l : count ≤ most_records) (f : Refusal) (e : f ≡ first_bad [] (entries_in count s)) where
      pub read_bad : 1 ≤ f.number → (x : Reading) → x ≡ refused f → x ≡ read_of s
      unfolding read_with
      read_bad b x a =
          rw (ne_eqb (length s) 0 (omega arith), eq-eqb (length s % record_bytes) 0 w, le-ltb most_records count l, ← e, ne_eqb f.number 0 (omega arith)) a

      pub read_plan : f.number ≡ 0 → (p : Plan) → p ≡ plan_of (records_in count s) → Ok p ≡ read_of s
      unfolding read_with
      read_plan z p q =
          rw (ne_eqb (length s) 0 (omega arith), eq-eqb (length s % record_bytes) 0 w, le-ltb most_records count l, ← e, eq-eqb f.number 0 z)
          (ap Ok q)
