-- Document 01, "Reply numbers", 1 to 12: what reading, checking and writing answer. What one record is refused for, 4 to 11 and 15, is
-- handed on from `rules`. Number 0 is no number of the document: it says that nothing is refused. Assumes nothing.
use Rattle.std.specs.Prelude.{not, List, [], ◌∷◌, ◌++◌, map, ℕ, ◌*◌, ◌/◌, ◌%◌, eqb, ltb, length, drop, Result, Ok, Err, if◌then◌else◌}
use Rattle.records.specs.declared.Record.{Record}
use Rattle.plan.specs.Limits.{most_ordinary, records_with, record_bytes}
use Rattle.plan.specs.APlan.{records_of, plan_of}
use Rattle.plan.specs.PlanFile.{Entry, entries_in, file_of}
use Rattle.plan.specs.declared.Plan.{Plan}
use Rattle.plan.specs.declared.Refusal.{Refusal}
pub use Rattle.numbers.specs.Numbers.{is_nought}
pub use Rattle.rules.specs.OneRecord.{Before, after, is_known, in_order, room_for_with, room_for, zeros, named, apart, joined, bounded, number_for, number_with, number_of}
unfoldable pub use Rattle.rules.specs.OneRecord.{last_kind, number_for_with}

abbrev pub refusal : ℕ → ℕ → Refusal
refusal n i = record { number = n; place = i }

abbrev pub accepted : Refusal
accepted = refusal 0 0

-- What follows takes the limit of ordinary records, m, as its first argument, so that it says what readers with another limit
-- answer too (document 02, §2); under each stands the same with the limit that holds.

-- the entries es in file order, each tested after the records before it, rs first: the first bad one's number and place
unfoldable pub first_bad_with : ℕ → List Record → List Entry → Refusal
first_bad_with m rs [] = accepted
first_bad_with m rs (e ∷ es) =
    if eqb (number_with m (after rs) e.what e.reserved) 0 then first_bad_with m (rs ++ (e.what ∷ [])) es
    else refusal (number_with m (after rs) e.what e.reserved) (length rs)

abbrev pub first_bad : List Record → List Entry → Refusal
first_bad rs es = first_bad_with most_ordinary rs es

-- what reading answers: the plan, or the number and the first bad record
abbrev pub Reading : Type 0
Reading = Result Plan Refusal

abbrev pub refused : Refusal → Reading
refused x = Err x

abbrev pub taken : List Record → Reading
taken rs = Ok (plan_of rs)

-- its number and its place, 0 where the plan is read; and its plan: a refused read hands back none, which is a plan without records
abbrev pub number_in : Reading → ℕ
number_in (Ok p) = 0
number_in (Err x) = x.number

abbrev pub place_in : Reading → ℕ
place_in (Ok p) = 0
place_in (Err x) = x.place

abbrev pub plan_in : Reading → Plan
plan_in (Ok p) = p
plan_in (Err x) = plan_of []

-- the records of the entries, if none is bad
abbrev pub read_entries_with : ℕ → List Entry → Reading
read_entries_with m es =
    if eqb (first_bad_with m [] es).number 0 then taken (map (λ (e : Entry). e.what) es)
    else refused (first_bad_with m [] es)

-- 1: no bytes; 2: length not a multiple of 16; 3: more records than there is room for; then record by record
unfoldable pub read_with : ℕ → List ℕ → Reading
read_with m s =
    if eqb (length s) 0 then refused (refusal 1 0)
    else (if not (eqb (length s % record_bytes) 0) then refused (refusal 2 0)
    else (if ltb (records_with m) (length s / record_bytes) then refused (refusal 3 0)
    else read_entries_with m (entries_in (length s / record_bytes) s)))

abbrev pub read_of : List ℕ → Reading
read_of s = read_with most_ordinary s

-- a plan by value gets what reading its records would give
unfoldable pub check_with : ℕ → Plan → Refusal
check_with m p =
    if eqb p.count 0 then refusal 1 0
    else (if ltb (records_with m) p.count then refusal 3 0
    else first_bad_with m [] (map (λ (r : Record). record { what = r; reserved = 0 }) (records_of p)))

abbrev pub check_of : Plan → Refusal
check_of p = check_with most_ordinary p

-- writing: the plan's own refusal; then 12 where the buffer is too short
unfoldable pub write_with : ℕ → Plan → List ℕ → Refusal
write_with m p out =
    if not (eqb (check_with m p).number 0) then check_with m p
    else (if ltb (length out) (record_bytes * p.count) then refusal 12 0
    else accepted)

abbrev pub write_of : Plan → List ℕ → Refusal
write_of p out = write_with most_ordinary p out

-- the buffer after that: a refusal changes no byte, a write exactly the first 16 × records
unfoldable pub written_with : ℕ → Plan → List ℕ → List ℕ
written_with m p out =
    if eqb (write_with m p out).number 0 then file_of p ++ drop (record_bytes * p.count) out
    else out

abbrev pub written_of : Plan → List ℕ → List ℕ
written_of p out = written_with most_ordinary p out
