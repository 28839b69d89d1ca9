-- Reading, checking and writing agree: a plan by value gets what reading its file would give, a written plan reads back
-- as the same plan, and accepted bytes, read and written, are the same bytes. Assumes of a plan only what every plan that
-- a program can hold keeps, and of a file that its bytes are bytes.
use mathlib.Core.Path.{◌≡◌, refl, ap, sym, ◌∙◌}
use mathlib.Core.Logic.{◌↔◌}
use mathlib.Core.Bool.{Bool, true, false, not}
use mathlib.Core.List.{List, [], ◌++◌, map, append-nil}
use Prim.Native.Nat.{ℕ, ◌*◌, ◌≤◌}
use native.Mathlib.Omega.{arith}
use lib.Dec.{eqb, ltb}
use lib.ListN.{length, take, drop}
use lib.Seq.{length-take-le, take_at}
use borrow.Author.Tests.{eqb-true}
use Rattle.std.specs.Prelude.{if◌then◌else◌}
use Rattle.plan.specs.Limits.{most_ordinary, most_records, record_bytes}
use Rattle.plan.specs.APlan.{records_of, plan_of}
use Rattle.plan.specs.PlanFile.{entries_in, file_of}
use Rattle.plan.specs.ReplyNumbers.{refusal, accepted, refused, taken, read_of, check_of, check_with, write_of, write_with, written_of, written_with, number_in, plan_in}
use Rattle.plan.specs.Held.{All, IsByte, Held, HeldPlan, plain, refusal_in, HasFile}
use Rattle.plan.specs.declared.Plan.{Plan}
use Rattle.plan.proofs.Entries.{all_take, length_bytes, all_are_bytes, entries_back, whats}
use Rattle.plan.proofs.Limited.{verdict, Good, good, same, read_whole}
use Rattle.plan.proofs.Limited as Limited
pub use Rattle.plan.proofs.Limited.{records_of_plan}

-- ---- from a plan

-- Two plans of the same records get the same check: unused room counts for nothing.
pub check_by_records : (p q : Plan) → p.count ≡ q.count → records_of p ≡ records_of q → check_of p ≡ check_of q
unfolding check_with
check_by_records p q c r = λ i. verdict most_ordinary (c i) (map plain (r i))

-- a plan that passes the check
checked : (p : Plan) → (check_of p).number ≡ 0 → Good most_ordinary p.count (map plain (records_of p))
unfolding check_with
checked p e = good most_ordinary p.count (map plain (records_of p)) e

-- A plan that passes the check has a record, and no more records than there is room for.
pub checked_count : (p : Plan) → (check_of p).number ≡ 0 → (1 ≤ p.count) × (p.count ≤ most_records)
checked_count p e = ((checked p e).some, (checked p e).few)

-- A plan that passes the check is accepted, and no place is named.
pub names_no_place : (p : Plan) → (check_of p).number ≡ 0 → check_of p ≡ accepted
unfolding check_with
names_no_place p e = same (checked p e)

-- The records of a plan that a program can hold are such records.
pub records_held : (p : Plan) → HeldPlan p → All Held (records_of p)
records_held p h = all_take Held p.count p.records h.each

module _ (p : Plan) (h : HeldPlan p) (few : p.count ≤ most_records) where
  -- A plan has as many records as its count says.
  pub length_records : length (records_of p) ≡ p.count
  length_records = length-take-le p.count p.records (omega (arith, h.room))

  -- A plan's file is sixteen bytes for each record.
  pub length_file : length (file_of p) ≡ record_bytes * p.count
  length_file = rw length_records at (length_bytes (records_of p))

  entries_of_file : entries_in p.count (file_of p) ≡ map plain (records_of p)
  entries_of_file = rw (length_records, append-nil (file_of p)) at (entries_back (records_of p) (records_held p h) [])

-- A plan by value gets what reading its records would give.
pub reads_as_checked : (p : Plan) → HeldPlan p → p.count ≤ most_records
    → read_of (file_of p) ≡ (if eqb (check_of p).number 0 then taken (records_of p) else refused (check_of p))
unfolding check_with
reads_as_checked p h few =
    rw (read_whole most_ordinary p.count (file_of p) (length_file p h few), entries_of_file p h few, whats (records_of p))

-- Reading a plan's file gives the number and the place that the check of the plan gives.
pub check_is_reading : (p : Plan) → HeldPlan p → p.count ≤ most_records → refusal_in (read_of (file_of p)) ≡ check_of p
check_is_reading p h few = rw (reads_as_checked p h few) (go (eqb (check_of p).number 0) refl)
  where
    go : (b : Bool) → eqb (check_of p).number 0 ≡ b → refusal_in (if b then taken (records_of p) else refused (check_of p)) ≡ check_of p
    go true t = sym (names_no_place p (eqb-true _ 0 t))
    go false t = refl

-- a plan that is written has passed the check
written : (p : Plan) (out : List ℕ) → (write_of p out).number ≡ 0 → (check_of p).number ≡ 0
unfolding write_with
written p out e = go (eqb (check_of p).number 0) refl e
  where
    go : (b : Bool) → eqb (check_of p).number 0 ≡ b
        → (if not b then check_of p else (if ltb (length out) (record_bytes * p.count) then refusal 12 0 else accepted)).number ≡ 0
        → (check_of p).number ≡ 0
    go true t e = eqb-true _ 0 t
    go false t e = e

-- A written plan reads back as the same plan, whatever the buffer held before.
pub written_reads_back : (p : Plan) → HeldPlan p → (out : List ℕ) → (write_of p out).number ≡ 0
    → read_of (take (record_bytes * p.count) (written_of p out)) ≡ taken (records_of p)
unfolding written_with
written_reads_back p h out e =
    let c = written p out e in
    let few = (checked p c).few in
    rw (e, take_at (file_of p) _ _ (length_file p h few), reads_as_checked p h few, c)

-- A written plan whose unused room is zero reads back as itself.
pub written_reads_whole : (p : Plan) → HeldPlan p → p ≡ plan_of (records_of p) → (out : List ℕ) → (write_of p out).number ≡ 0
    → plan_in (read_of (take (record_bytes * p.count) (written_of p out))) ≡ p
written_reads_whole p h z out e = rw (written_reads_back p h out e) (sym z)

-- ---- from a file

-- What reading accepts passes the check.
pub read_is_checked : (s : List ℕ) → number_in (read_of s) ≡ 0 → check_of (plan_in (read_of s)) ≡ accepted
read_is_checked s e = Limited.read_is_checked most_ordinary s e

-- Accepted bytes are sixteen for each record of the plan read.
pub read_length : (s : List ℕ) → number_in (read_of s) ≡ 0 → record_bytes * (plan_in (read_of s)).count ≡ length s
read_length s e = Limited.read_length most_ordinary s e

-- Accepted bytes, read and written, are the same bytes.
pub file_back : (s : List ℕ) → All IsByte s → number_in (read_of s) ≡ 0 → file_of (plan_in (read_of s)) ≡ s
file_back s b e = Limited.file_back most_ordinary s e b

-- Writing a plan that was read is accepted, and puts the bytes that were read over the front of the buffer.
pub write_back : (s : List ℕ) → All IsByte s → number_in (read_of s) ≡ 0 → (out : List ℕ) → length s ≤ length out
    → (write_of (plan_in (read_of s)) out ≡ accepted) × (written_of (plan_in (read_of s)) out ≡ s ++ drop (length s) out)
write_back s b e out l = Limited.write_back most_ordinary s e b out l

-- Two files of bytes that are read as the same plan are the same file.
pub one_file : (s t : List ℕ) → All IsByte s → All IsByte t → number_in (read_of s) ≡ 0 → number_in (read_of t) ≡ 0
    → plan_in (read_of s) ≡ plan_in (read_of t) → s ≡ t
one_file s t b c e f q = sym (file_back s b e) ∙ ap (λ (p : Plan). file_of p) q ∙ file_back t c f

-- A plan passes the check exactly if some file reads back to its records.
pub accepted_exactly : (p : Plan) → HeldPlan p → ((check_of p).number ≡ 0) ↔ HasFile p
accepted_exactly p h = (λ c. forth c (checked p c).few, back)
  where
    forth : (check_of p).number ≡ 0 → p.count ≤ most_records → HasFile p
    forth c few =
        let r : read_of (file_of p) ≡ taken (records_of p) = rw (reads_as_checked p h few, c) in
        (file_of p, all_are_bytes (records_of p) (records_held p h), rw r, rw r (length_records p h few), rw r (records_of_plan (records_of p)))

    back : HasFile p → (check_of p).number ≡ 0
    back f = rw (← check_by_records (plan_in (read_of f.0)) p f.3 f.4, read_is_checked f.0 f.2)
