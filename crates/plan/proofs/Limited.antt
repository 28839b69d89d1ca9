-- Reading, checking and writing with any limit m of ordinary records: what they have in common, and that accepted bytes, read
-- and written, are the same bytes. Assumes of a file only that its bytes are bytes.
use mathlib.Core.Path.{◌≡◌, refl, sym, ap, ◌∙◌}
use mathlib.Core.Bool.{Bool, true, false, not}
use mathlib.Core.List.{List, [], ◌++◌, map}
use Prim.Native.Nat.{ℕ, zero, suc, ◌*◌, ◌/◌, ◌%◌, ◌≤◌}
use native.Mathlib.Omega.{arith}
use lib.Dec.{eqb, ltb}
use lib.ListN.{length, drop, length-map}
use lib.Seq.{take-append_seam}
use borrow.Author.Tests.{eqb-true, eqb-false, ltb-false, not-false, ne_eqb, le-ltb}
use Rattle.std.specs.Prelude.{Ok, Err, if◌then◌else◌}
use Rattle.plan.specs.Limits.{records_with, record_bytes}
use Rattle.plan.specs.APlan.{records_of, plan_of}
use Rattle.plan.specs.PlanFile.{Entry, entries_in, file_of}
use Rattle.plan.specs.ReplyNumbers.{refusal, accepted, first_bad_with, refused, taken, read_entries_with, read_with, check_with, write_with, written_with, Reading, number_in, plan_in}
use Rattle.plan.specs.Held.{All, IsByte, plain}
use Rattle.records.specs.declared.Record.{Record}
use Rattle.plan.specs.declared.Refusal.{Refusal}
use Rattle.plan.proofs.Entries.{IsPlain, plains, length_entries, bytes_again, past, passed, none_bad}

abbrev pub records_in : List Entry → List Record
records_in es = map (λ (e : Entry). e.what) es

-- n records, tested as the entries es
abbrev pub verdict : ℕ → ℕ → List Entry → Refusal
verdict m n es =
    if eqb n 0 then refusal 1 0
    else (if ltb (records_with m) n then refusal 3 0
    else first_bad_with m [] es)

abbrev pub answer : Refusal → List Record → Reading
answer x rs = if eqb x.number 0 then taken rs else refused x

-- a verdict of number 0
pub record Good (m n : ℕ) (es : List Entry) : Type 0 where
  pub some : 1 ≤ n
  pub few : n ≤ records_with m
  pub none : (first_bad_with m [] es).number ≡ 0

pub good : (m n : ℕ) (es : List Entry) → (verdict m n es).number ≡ 0 → Good m n es
good m n es e =
    let a = past (λ (x : Refusal). x.number) (eqb n 0) (refusal 1 0) _ (omega arith) e in
    let b = past (λ (x : Refusal). x.number) (ltb (records_with m) n) (refusal 3 0) _ (omega arith) a.1 in
    let nonzero = eqb-false n 0 a.0 in
    record { some = omega arith; few = ltb-false (records_with m) n b.0; none = b.1 }

module _ {m n : ℕ} {es : List Entry} (g : Good m n es) where
  pub same : verdict m n es ≡ accepted
  same = rw (ne_eqb n 0 (λ e. omega (arith, g.some)), le-ltb (records_with m) n g.few) (none_bad m [] es g.none).0

  pub all_plain_lem : All IsPlain es
  all_plain_lem = (none_bad m [] es g.none).1

no_records : (n : ℕ) → eqb (record_bytes * n) 0 ≡ eqb n 0
no_records zero = refl
no_records (suc n) = rw (ne_eqb (record_bytes * suc n) 0 (omega arith), ne_eqb (suc n) 0 (omega arith))

pub read_whole : (m n : ℕ) (s : List ℕ) → length s ≡ record_bytes * n
    → read_with m s ≡ answer (verdict m n (entries_in n s)) (records_in (entries_in n s))
unfolding read_with
read_whole m n s l =
    let r : record_bytes * n % record_bytes ≡ 0 = omega arith in
    let q : record_bytes * n / record_bytes ≡ n = omega arith in
    rw (l, r, q, no_records n) (go (eqb n 0) (ltb (records_with m) n))
  where
    go : (a b : Bool)
        → (if a then refused (refusal 1 0) else (if b then refused (refusal 3 0) else read_entries_with m (entries_in n s)))
        ≡ answer (if a then refusal 1 0 else (if b then refusal 3 0 else first_bad_with m [] (entries_in n s))) (records_in (entries_in n s))
    go true b = refl
    go false true = refl
    go false false = refl

-- The records that a plan made of some records has are those.
pub records_of_plan : (rs : List Record) → records_of (plan_of rs) ≡ rs
records_of_plan rs = take-append_seam rs _

-- the entries of a file of whole records
abbrev pub parts : List ℕ → List Entry
parts s = entries_in (length s / record_bytes) s

-- good entries of whole records are read as their records
pub read_good : (m : ℕ) (s : List ℕ) → length s ≡ record_bytes * (length s / record_bytes) → Good m (length s / record_bytes) (parts s)
    → read_with m s ≡ taken (records_in (parts s))
read_good m s l g = rw (read_whole m _ s l, same g)

-- A refused read hands back a plan without records.
pub refused_plan : (x : Reading) → (number_in x ≡ 0 → ⊥) → plan_in x ≡ plan_of []
refused_plan (Ok p) n = absurd (n refl)
refused_plan (Err x) n = refl

module _ (m : ℕ) (s : List ℕ) (e : number_in (read_with m s) ≡ 0) where
  pub whole : length s ≡ record_bytes * (length s / record_bytes)
  unfolding read_with
  whole =
      let a = past number_in (eqb (length s) 0) (refused (refusal 1 0)) _ (omega arith) e in
      let b = past number_in (not (eqb (length s % record_bytes) 0)) (refused (refusal 2 0)) _ (omega arith) a.1 in
      omega (arith, eqb-true (length s % record_bytes) 0 (not-false _ b.0))

  pub found : Good m (length s / record_bytes) (parts s)
  found =
      let x = verdict m (length s / record_bytes) (parts s) in
      good m _ _ (passed number_in x.number (taken (records_in (parts s))) (refused x) refl (rw (read_whole m _ s whole) at e))

  pub read_taken : read_with m s ≡ taken (records_in (parts s))
  read_taken = read_good m s whole found

  pub read_count : (plan_in (read_with m s)).count ≡ length s / record_bytes
  read_count = rw (read_taken, length-map, length_entries)

  pub read_records : records_of (plan_in (read_with m s)) ≡ records_in (parts s)
  read_records = rw (read_taken, records_of_plan)

  -- What reading accepts passes the check.
  pub read_is_checked : check_with m (plan_in (read_with m s)) ≡ accepted
  unfolding check_with
  read_is_checked = (λ i. verdict m (read_count i) (map plain (read_records i))) ∙ rw (plains _ (all_plain_lem found)) (same found)

  -- Accepted bytes are sixteen for each record of the plan read.
  pub read_length : record_bytes * (plan_in (read_with m s)).count ≡ length s
  read_length = rw read_count (sym whole)

  module _ (b : All IsByte s) where
    -- Accepted bytes, read and written, are the same bytes.
    pub file_back : file_of (plan_in (read_with m s)) ≡ s
    file_back = rw read_records (bytes_again _ s b whole (all_plain_lem found))

    write_accepts : (out : List ℕ) → length s ≤ length out → write_with m (plan_in (read_with m s)) out ≡ accepted
    unfolding write_with
    write_accepts out l = rw (read_is_checked, read_length, le-ltb (length out) (length s) l)

    -- Writing a plan that was read is accepted, and puts the bytes that were read over the front of the buffer.
    pub write_back : (out : List ℕ) → length s ≤ length out
        → (write_with m (plan_in (read_with m s)) out ≡ accepted) × (written_with m (plan_in (read_with m s)) out ≡ s ++ drop (length s) out)
    unfolding written_with
    write_back out l = let w = write_accepts out l in (w, rw (w, file_back, read_length))

-- A file that is not read is refused with a number.
pub refused_number : (m : ℕ) (s : List ℕ) (x : Refusal) → Err x ≡ read_with m s → x.number ≡ 0 → ⊥
refused_number m s x e z = let t : Err x ≡ taken (records_in (parts s)) = e ∙ read_taken m s (sym (ap number_in e) ∙ z) in cc
