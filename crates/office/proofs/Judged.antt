-- The records that were kept, judged, are the plan of the lines as far as there is room, and past it a plan that is too long. Assumes
-- nothing.
use mathlib.Core.Path.{◌≡◌, refl}
use mathlib.Core.Bool.{Bool, true, false}
use mathlib.Core.List.{List, [], ◌∷◌, ◌++◌}
use Prim.Native.Nat.{◌+◌, ◌-◌, ◌%◌, ◌≤◌, ◌<◌, min}
use native.Mathlib.Omega.{arith}
use lib.Dec.{ltb}
use lib.ListN.{length, set, replicate, length-append}
use borrow.Author.Tests.{ne_eqb, lt-ltb, ltb-true, ltb-false}
use Rattle.records.specs.Records.{blank}
use Rattle.records.specs.declared.Record.{Record}
use Rattle.plan.specs.Limits.{most_records}
use Rattle.plan.specs.APlan.{plan_of}
use Rattle.plan.specs.ReplyNumbers.{refusal, check_of, check_with}
use Rattle.plan.specs.declared.Plan.{Plan}
use Rattle.office.specs.Sheets.{read_as}
use Rattle.office.specs.Inside.{plan_by, judged}
use Rattle.office.proofs.Filling.{fill}

-- the records so far, as far as there is room
abbrev pub Records : List Record → List Record → Type 0
Records done records = length done ≤ most_records → records ≡ done ++ replicate (most_records - length done) blank

-- one more, past the room at any place
pub with_record_lem : (done records : List Record) (r : Record) → Records done records → Records (done ++ (r ∷ [])) (set records (length done % most_records) r)
with_record_lem done records r e h =
    let z = length-append done (r ∷ []) in
    let n : length (done ++ (r ∷ [])) ≡ length done + 1 = omega arith in
    let m : length done % most_records ≡ length done = omega arith in
    rw (n, m) (fill done (length done) most_records records r blank refl (omega arith) (e (omega arith)))

-- the plan of the records, as far as there is room
plan_by_lem : (done records : List Record) → Records done records → length done ≤ most_records → plan_by (length done) records ≡ plan_of done
plan_by_lem done records e h =
    let m : min (length done) (most_records + 1) ≡ length done = omega arith in
    rw (m, e h)

-- past the room it is refused with 3, whatever the room holds
too_long : (p : Plan) → most_records < p.count → check_of p ≡ refusal 3 0
unfolding check_with
too_long p h = rw (ne_eqb p.count 0 (λ e. omega arith), lt-ltb most_records p.count h)

pub judged_is : (done records : List Record) → Records done records → judged (length done) records ≡ read_as done
unfolding judged read_as
judged_is done records e = go (ltb most_records (length done)) refl
  where
    go : (b : Bool) → ltb most_records (length done) ≡ b → judged (length done) records ≡ read_as done
    go false h = rw (plan_by_lem done records e (ltb-false most_records (length done) h))
    go true h =
        let l = ltb-true most_records (length done) h in
        rw (too_long (plan_by (length done) records) (omega arith), too_long (plan_of done) (omega arith))
