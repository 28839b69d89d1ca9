-- The bytes of a plan part are not kept: they stand at the front of the buffer that the input is read into, or there are
-- more of them than any plan has, and then reading goes by their number alone. Assumes nothing.
use Rattle.std.proofs.Common.{◌≡◌, ℕ, ◌+◌, ◌*◌, ◌/◌, ◌%◌, ◌<◌, ◌≤◌, min, Bool, true, false, not, eqb, ltb, List, length, take, sym, refl, ap, ◌∙◌, arith, length-take-le, le-ltb, lt-ltb, ne_eqb}
use mathlib.Core.Logic.{by_cases}
use native.Mathlib.Decide.{dec_lt}
use Rattle.std.specs.Prelude.{if◌then◌else◌}
use Rattle.plan.specs.Limits.{most_records, record_bytes}
use Rattle.plan.specs.ReplyNumbers.{Reading, read_of, read_with, refused, refusal}
use Rattle.stream.specs.Sheets.{shown, read_front}

-- one record more than a plan may have
abbrev long : ℕ
long = record_bytes * (most_records + 1)

-- what is read of that many bytes or more, from what their number leaves over
abbrev by_rest : ℕ → Reading
by_rest r = if not (eqb r 0) then refused (refusal 2 0) else refused (refusal 3 0)

long_read : (s : List ℕ) → long ≤ length s → read_of s ≡ by_rest (length s % record_bytes)
unfolding read_with
long_read s h = rw (ne_eqb (length s) 0 (λ e. omega (arith, e)), lt-ltb most_records (length s / record_bytes) (omega arith))

module _ (bs front : List ℕ) (room : record_bytes * (most_records + 2) ≤ length front) where
  short_part : length bs < long → take (length bs) front ≡ bs → read_front (length bs) front ≡ read_of bs
  short_part h e =
      let m : min (length bs) (length front) ≡ length bs = omega arith in
      rw (lt-ltb (length bs) long h, m, e)

  long_part : long ≤ length bs → read_front (length bs) front ≡ read_of bs
  long_part h =
      let n = long + length bs % record_bytes in
      let m : min n (length front) ≡ n = omega arith in
      let l : length (take n front) ≡ n = length-take-le n front (omega arith) in
      let r : n % record_bytes ≡ length bs % record_bytes = omega arith in
      rw (le-ltb (length bs) long h, m) (long_read (take n front) (rw l (omega arith)) ∙ rw (l, r) refl ∙ sym (long_read bs h))

  -- reading at the front of the buffer answers what reading the plan part would
  pub front_reads : (length bs < long → take (length bs) front ≡ bs) → read_front (length bs) front ≡ read_of bs
  front_reads e = by_cases (dec_lt (length bs) long) (λ h. short_part h (e h)) (λ h. long_part (omega arith))
