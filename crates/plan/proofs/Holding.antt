-- What reading answers, refused or accepted, is a plan that a program can hold: the premise of the theorems on files and plans is met.
-- Assumes of a file only that its bytes are bytes.
use mathlib.Core.Path.{◌≡◌, refl, ◌∙◌}
use mathlib.Core.Bool.{Bool, true, false, not}
use mathlib.Core.List.{List, [], ◌∷◌}
use Prim.Native.Nat.{ℕ, zero, suc, ◌-◌, ◌/◌, ◌%◌, ◌^◌, ◌≤◌, ◌<◌}
use native.Mathlib.Omega.{arith}
use lib.Dec.{eqb, ltb}
use lib.IntN.{pos, negsuc}
use lib.ListN.{length, drop, replicate, length-append, length-replicate, length-map}
use lib.Signed.{mag}
use borrow.Author.Tests.{ltb-true, ltb-false}
use Rattle.numbers.specs.Numbers.{word_at, signed_of}
use Rattle.numbers.proofs.Words.{byte, word_fits}
use Rattle.records.specs.Bytes.{record_in}
use Rattle.records.specs.declared.Record.{Record}
use Rattle.std.specs.Prelude.{if◌then◌else◌}
use Rattle.plan.specs.Limits.{most_ordinary, most_records, record_bytes}
use Rattle.plan.specs.APlan.{blank, plan_of}
use Rattle.plan.specs.PlanFile.{Entry, entries_in}
use Rattle.plan.specs.ReplyNumbers.{refusal, refused, taken, first_bad_with, read_with, read_of, plan_in}
use Rattle.plan.specs.Held.{All, IsByte, Held, HeldPlan}
use Rattle.plan.specs.declared.Refusal.{Refusal}
use Rattle.plan.proofs.Limited.{records_in}
use Rattle.records.proofs.Entries.{all_append, length_entries}

blanks_held : (n : ℕ) → All Held (replicate n blank)
blanks_held zero = tt
blanks_held (suc n) =
    (record { kind = omega arith; a = omega arith; b = omega arith; first = omega arith; second = omega arith; code = omega arith }, blanks_held n)

-- A plan of records that a program can hold, as many as there is room for, is such a plan.
pub plan_held : (rs : List Record) → All Held rs → length rs ≤ most_records → HeldPlan (plan_of rs)
plan_held rs a h =
    record {
      room = length-append rs (replicate (most_records - length rs) blank) ∙ rw (length-replicate (most_records - length rs) blank) (omega arith);
      each = all_append Held rs (replicate (most_records - length rs) blank) a (blanks_held (most_records - length rs));
    }

signed_fits : (n : ℕ) → n < 2 ^ 32 → mag (signed_of n) < 2 ^ 31
signed_fits n h = go (ltb n (2 ^ 31)) refl
  where
    go : (b : Bool) → ltb n (2 ^ 31) ≡ b → mag (if b then pos n else negsuc (2 ^ 32 - 1 - n)) < 2 ^ 31
    go true e = ltb-true n (2 ^ 31) e
    go false e = omega (arith, ltb-false n (2 ^ 31) e)

record_held : (s : List ℕ) → All IsByte s → Held (record_in s)
record_held s b =
    record {
      kind = byte s b 0;
      a = byte s b 1;
      b = byte s b 2;
      first = signed_fits (word_at s 4) (word_fits s b 4);
      second = signed_fits (word_at s 8) (word_fits s b 8);
      code = word_fits s b 12;
    }

all_drop : (n : ℕ) (s : List ℕ) → All IsByte s → All IsByte (drop n s)
all_drop zero s b = b
all_drop (suc n) [] b = tt
all_drop (suc n) (x ∷ s) b = all_drop n s b.1

entries_held : (n : ℕ) (s : List ℕ) → All IsByte s → All Held (records_in (entries_in n s))
unfolding entries_in
entries_held zero s b = tt
entries_held (suc n) s b = (record_held s b, entries_held n (drop record_bytes s) (all_drop record_bytes s b))

none_held : HeldPlan (plan_of [])
none_held = plan_held [] tt (omega arith)

-- What reading answers is a plan that a program can hold.
pub read_held : (s : List ℕ) → All IsByte s → HeldPlan (plan_in (read_of s))
unfolding read_with
read_held s b = go (eqb (length s) 0) (not (eqb (length s % record_bytes) 0)) (ltb most_records n) refl (eqb bad.number 0)
  where
    n : ℕ
    n = length s / record_bytes

    es : List Entry
    es = entries_in n s

    bad : Refusal
    bad = first_bad_with most_ordinary [] es

    go : (x y z : Bool) → ltb most_records n ≡ z → (t : Bool)
        → HeldPlan (plan_in (if x then refused (refusal 1 0) else (if y then refused (refusal 2 0) else (if z then refused (refusal 3 0) else (if t then taken (records_in es) else refused bad)))))
    go true y z e t = none_held
    go false true z e t = none_held
    go false false true e t = none_held
    go false false false e true = plan_held (records_in es) (entries_held n s b) (rw (length-map, length_entries) (ltb-false most_records n e))
    go false false false e false = none_held
