-- The loops that go over a file: what `decode` has filled after i records, at its start, after a turn and at its end; and where the
-- first byte 3 stands that is not zero. Assumes nothing.
use mathlib.Core.Path.{◌≡◌, refl, sym, ap, ap₂, ◌∙◌}
use mathlib.Core.List.{List, [], ◌∷◌, ◌++◌, map-append}
use Prim.Native.Nat.{ℕ, zero, suc, ◌+◌, ◌*◌, ◌-◌, ◌<◌, ◌≤◌}
use native.Mathlib.Nat.{zero-add}
use native.Mathlib.Omega.{arith}
use native.Mathlib.Numerals.{add-one}
use lib.ListN.{length, drop, get_or, set, replicate, length-map}
use lib.Seq.{get_or-drop, drop-drop, set_at, append_snoc}
use borrow.Author.Tests.{ne_eqb}
use Rattle.plan.specs.Limits.{most_records, record_bytes}
use Rattle.plan.specs.APlan.{blank, plan_of}
use Rattle.plan.specs.PlanFile.{Entry, record_in, entries_in}
use Rattle.plan_file.specs.Inside.{records_in, first_odd}
use Rattle.plan.proofs.Entries.{length_entries}
use Rattle.records.specs.declared.Record.{Record}
use Rattle.plan.specs.declared.Plan.{Plan}

abbrev entry_in : List ℕ → Entry
entry_in s = record { what = record_in s; reserved = get_or s 3 0 }

entries_snoc : (n : ℕ) (s : List ℕ) → entries_in (suc n) s ≡ entries_in n s ++ (entry_in (drop (record_bytes * n) s) ∷ [])
unfolding entries_in
entries_snoc zero s = refl
entries_snoc (suc n) s =
    let k : record_bytes + record_bytes * n ≡ record_bytes * suc n = omega arith in
    let e : drop (record_bytes * n) (drop record_bytes s) ≡ drop (record_bytes * suc n) s = rw k at (drop-drop (record_bytes * n) record_bytes s) in
    ap (λ (es : List Entry). entry_in s ∷ es) (rw e at (entries_snoc n (drop record_bytes s)))

-- ---- the plan

-- the records that are filled after i of them
abbrev pub filled : List ℕ → ℕ → List Record
filled s i = records_in i s ++ replicate (most_records - i) blank

pub filled_start : (s : List ℕ) → replicate most_records blank ≡ filled s 0
unfolding entries_in
filled_start s = refl

pub filled_more : (s : List ℕ) (i : ℕ) → i < most_records → set (filled s i) i (record_in (drop (record_bytes * i) s)) ≡ filled s (i + 1)
filled_more s i h =
    let v : Record = record_in (drop (record_bytes * i) s) in
    let n : length (records_in i s) ≡ i = length-map (entries_in i s) (λ (e : Entry). e.what) ∙ length_entries i s in
    let g : records_in (i + 1) s ≡ records_in i s ++ (v ∷ []) =
    rw (add-one i, entries_snoc i s) (map-append (λ (e : Entry). e.what) (entries_in i s) (entry_in (drop (record_bytes * i) s) ∷ [])) in
    let e : most_records - i ≡ suc (most_records - (i + 1)) = omega arith in
    rw (g, e) (set_at (records_in i s) blank (replicate (most_records - (i + 1)) blank) v i n ∙ sym (append_snoc (records_in i s) v (replicate (most_records - (i + 1)) blank)))

pub filled_plan : (p : Plan) (s : List ℕ) (n : ℕ) → p.count ≡ n → p.records ≡ filled s n → p ≡ plan_of (records_in n s)
filled_plan p s n e f =
    ap₂ (λ (c : ℕ) (rs : List Record). record { count = c; records = rs }) e f ∙ rw (length-map (entries_in n s) (λ (e : Entry). e.what), length_entries n s)

-- ---- bytes 3

-- of n records, the first i have byte 3 zero
pub record Even (s : List ℕ) (n i : ℕ) : Type 0 where
  pub rest : i + first_odd (entries_in (n - i) (drop (record_bytes * i) s)) ≡ first_odd (entries_in n s)

pub even_start : (s : List ℕ) (n : ℕ) → Even s n 0
even_start s n = let e : n - 0 ≡ n = omega arith in record { rest = rw e (zero-add (first_odd (entries_in n s))) }

module _ (s : List ℕ) (n i : ℕ) (f : Even s n i) where
  pub even_end : n ≤ i → i ≤ n → n ≡ first_odd (entries_in n s)
  unfolding entries_in first_odd
  even_end h k = let e : n - i ≡ 0 = omega arith in let r = rw e at f.rest in omega arith

  module _ (h : i < n) where
    abbrev more : List Entry
    more = entries_in (n - (i + 1)) (drop (record_bytes * (i + 1)) s)

    from_here : entries_in (n - i) (drop (record_bytes * i) s) ≡ entry_in (drop (record_bytes * i) s) ∷ more
    unfolding entries_in
    from_here =
        let e : n - i ≡ suc (n - (i + 1)) = omega arith in
        let k : record_bytes * i + record_bytes ≡ record_bytes * (i + 1) = omega arith in
        rw (e, ← k, ← (drop-drop record_bytes (record_bytes * i) s))

    pub even_odd : (get_or s (record_bytes * i + 3) 0 ≡ 0 → ⊥) → i ≡ first_odd (entries_in n s)
    unfolding first_odd
    even_odd z =
        let r = rw (from_here, get_or-drop (record_bytes * i) s 3 0, ne_eqb _ 0 z) at f.rest in
        omega arith

    pub even_more : get_or s (record_bytes * i + 3) 0 ≡ 0 → Even s n (i + 1)
    unfolding first_odd
    even_more z =
        let r : i + suc (first_odd more) ≡ first_odd (entries_in n s) = rw (from_here, get_or-drop (record_bytes * i) s 3 0, z) at f.rest in
        record { rest = omega arith }
