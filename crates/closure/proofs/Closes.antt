-- `close` put together: what each of its answers rests on. Assumes nothing.
use mathlib.Core.Path.{◌≡◌, refl, sym, ap, ◌∙◌}
use mathlib.Core.Bool.{Bool, true, false, not}
use mathlib.Core.List.{List, [], ◌++◌}
use Prim.Native.Nat.{ℕ, ◌<◌, ◌≤◌}
use native.Mathlib.Omega.{arith}
use native.Mathlib.Decide.{dec_lt}
use lib.ListN.{length, length-replicate, length-take, take}
use borrow.Author.Tests.{ne_eqb, not-true, not-false}
use Rattle.std.specs.Prelude.{Ok, Err}
use Rattle.plan.specs.Limits.{most_points, most_records}
use Rattle.plan.specs.APlan.{points, records_of, plan_of}
use Rattle.plan.specs.ReplyNumbers.{Reading, refusal, refused, check_of}
use Rattle.records.specs.declared.Record.{Record}
use Rattle.plan.specs.declared.Plan.{Plan}
use Rattle.plan.specs.declared.Refusal.{Refusal}
use Rattle.network.specs.Passing.{Consistent}
use Rattle.network.proofs.Laws.{not_both}
use Rattle.tables.specs.declared.table.Part.TheVariants.{All}
use Rattle.tables.specs.Tables.{Table, none, side}
use Rattle.tables.specs.Entries.{raw, at, nowhere}
use Rattle.tables.proofs.Widths.{wide_in, wide_out}
use Rattle.rows.specs.Sheet.{SheetReady}
use Rattle.rows.specs.Filled.{Filled}
use Rattle.rows.specs.Layout.{LaidOut}
use Rattle.projection.proofs.Laws.{same_distances, same_cycle, same_consistent}
use Rattle.projection.proofs.Judges.{part_cycle, all_consistent, all_edges}
use Rattle.vee.specs.PlanTest.{unset, edges_of}
use Rattle.vee.specs.TestOf.{entry, among, has_cycle}
use Rattle.vee.proofs.Rules.{Valid, clash}
use Rattle.vee.proofs.Sheets.{sheet_ready, to_sheet, from_sheet}
use Rattle.vee.proofs.Testing.{accepted_plan, nothing_lasts}
use Rattle.vee.proofs.Yes.{few}
use Rattle.vee.proofs.Executable.{plan_distances, plan_cycle, plan_capped, none_among}
use Rattle.closure.specs.Closing.{has_steps, distances_of, record_of, row_of, records_by, made_of, too_far, some_too_far, close_of}
use Rattle.closure.specs.Inside.{PointsReady}
use Rattle.closure.proofs.Gathering.{gathered_same}
use Rattle.closure.proofs.Networks.{same_entry}
use Rattle.closure.proofs.Making.{points_listed}
use Rattle.closure.proofs.Coding.{not_among}

-- ---- tables that agree

module _ (n : ℕ) (f g : Table) (same : (X Y : ℕ) → X < n → Y < n → f X Y ≡ g X Y) where
  pub same_records : records_by n f ≡ records_by n g
  same_records =
      gathered_same 0 n (row_of n f) (row_of n g) (λ X l h.
      gathered_same 0 n (λ Y. record_of X Y (f X Y)) (λ Y. record_of X Y (g X Y)) (λ Y m k.
      ap (record_of X Y) (same X Y (omega arith) (omega arith))))

  -- whether one of them is so
  same_among : (so to : ℕ → Bool) → ((j : ℕ) → j < n → so j ≡ to j) → among n so ≡ among n to
  same_among so to h = go (among n to) refl
    where
      go : (b : Bool) → among n to ≡ b → among n so ≡ b
      go true e = go' (among n so) refl
        where
          go' : (c : Bool) → among n so ≡ c → among n so ≡ true
          go' true k = k
          go' false k = clash (sym e ∙ sym (not_among n to (λ j l. sym (h j l) ∙ none_among n so k j l)))
      go false e = sym (not_among n so (λ j l. h j l ∙ none_among n to e j l))

  pub same_far : some_too_far n f ≡ some_too_far n g
  same_far =
      same_among (λ X. among n (λ Y. too_far (f X Y))) (λ X. among n (λ Y. too_far (g X Y))) (λ X hx.
      same_among (λ Y. too_far (f X Y)) (λ Y. too_far (g X Y)) (λ Y hy. ap too_far (same X Y hx hy)))

-- ---- the plan's table, as the code fills it

at_most_none : (t : List ℕ) (X Y : ℕ) → at t X Y ≤ none
at_most_none t X Y = elim (dec_lt (raw t X Y) nowhere) [
  | yes h ↦ omega (arith, wide_in (raw t X Y) h)
  | no h ↦ omega (arith, wide_out (raw t X Y) (omega arith))
]

module _ (rs : List Record) (v : Valid [] rs) (s : List ℕ) (out : LaidOut rs s) (t : List ℕ) where
  has_cycle_lem : Filled All s unset (length rs) (points rs) t false → has_cycle (points rs) (distances_of rs) ≡ true
  has_cycle_lem f = go (has_cycle (points rs) (distances_of rs)) refl
    where
      go : (b : Bool) → has_cycle (points rs) (distances_of rs) ≡ b → has_cycle (points rs) (distances_of rs) ≡ true
      go true e = e
      go false e =
          absurd (not_both (edges_of rs unset) (plan_distances rs v unset nothing_lasts e).1 (same_cycle (from_sheet rs v s out unset) (to_sheet rs v s out unset) (part_cycle f.verdict)))

  module _ (f : Filled All s unset (length rs) (points rs) t true) where
    calm : Consistent (edges_of rs unset)
    calm = same_consistent (from_sheet rs v s out unset) (to_sheet rs v s out unset) (all_consistent f.verdict.1)

    no_cycle : has_cycle (points rs) (distances_of rs) ≡ false
    no_cycle = go (has_cycle (points rs) (distances_of rs)) refl
      where
        go : (b : Bool) → has_cycle (points rs) (distances_of rs) ≡ b → has_cycle (points rs) (distances_of rs) ≡ false
        go false e = e
        go true e = absurd (not_both (edges_of rs unset) calm (plan_cycle rs v unset nothing_lasts e))

    same_table : (X Y : ℕ) → X < points rs → Y < points rs → at t X Y ≡ entry (distances_of rs) X Y
    same_table X Y hx hy =
        same_entry
        (same_distances (from_sheet rs v s out unset) (to_sheet rs v s out unset) (all_edges f.verdict.0))
        (plan_distances rs v unset nothing_lasts no_cycle).0
        X
        Y
        hx
        hy
        (at_most_none t X Y)
        (plan_capped rs v unset nothing_lasts X Y hx hy)

-- ---- the answers

pub close_refused_lem : (p : Plan) {x : Refusal} → x ≡ check_of p → (x.number ≡ 0 → ⊥) → Err x ≡ close_of p
unfolding close_of
close_refused_lem p {x} e h =
    let n : (check_of p).number ≡ 0 → ⊥ = λ z. h (ap (λ (y : Refusal). y.number) e ∙ z) in
    ap refused e ∙ rw (ne_eqb (check_of p).number 0 n) refl

module _ (p : Plan) {x : Refusal} (ex : x ≡ check_of p) (ok : x.number ≡ 0) where
  passed : (check_of p).number ≡ 0
  passed = sym (ap (λ (y : Refusal). y.number) ex) ∙ ok

  pub few_records : p.count ≤ most_records
  few_records = (accepted_plan p passed).0

  v : Valid [] (records_of p)
  v = (accepted_plan p passed).1

  pub close_steps : {b : Bool} {r : Reading} → b ≡ has_steps (records_of p) → b ≡ true → r ≡ refused (refusal 61 0) → r ≡ close_of p
  unfolding close_of
  close_steps {b} h e k = let s : has_steps (records_of p) ≡ true = sym h ∙ e in rw (passed, s) k

  module _ {b : Bool} (hb : b ≡ has_steps (records_of p)) (no : b ≡ false) (long : length p.records ≡ most_records) {s : List ℕ} (out : LaidOut (records_of p) s) {n : ℕ} (hn : n ≡ points (records_of p)) where
    none_there : has_steps (records_of p) ≡ false
    none_there = sym hb ∙ no

    all_records : length (records_of p) ≡ p.count
    all_records = omega (arith, length-take p.count p.records, few_records)

    pub fill_ready : SheetReady s unset p.count n
    fill_ready = rw (← all_records, hn) (sheet_ready (records_of p) v s out unset (omega (arith, all_records, few_records)) (length-replicate {A = ℕ} most_points 0) nothing_lasts)

    pub few_points : n ≤ side
    few_points = rw hn (few (records_of p) v)

    pub points_ready : PointsReady p n
    points_ready = record { few = few_points; count = few_records; there = omega (arith, hn, points_listed (records_of p) v, all_records) }

    module _ {t : List ℕ} {c : Bool} (f : Filled All s unset p.count n t c) where
      filled : Filled All s unset (length (records_of p)) (points (records_of p)) t c
      filled = rw (all_records, ← hn) f

      pub close_cycle : {r : Reading} → not c ≡ true → r ≡ refused (refusal 62 0) → r ≡ close_of p
      unfolding close_of
      close_cycle e k = let h = has_cycle_lem (records_of p) v s out t (rw (not-true c e) at filled) in rw (passed, none_there, h) k

      module _ (e : not c ≡ false) where
        f_true : Filled All s unset (length (records_of p)) (points (records_of p)) t true
        f_true = rw (not-false c e) at filled

        h : has_cycle (points (records_of p)) (distances_of (records_of p)) ≡ false
        h = no_cycle (records_of p) v s out t f_true

        tables : (X Y : ℕ) → X < points (records_of p) → Y < points (records_of p) → at t X Y ≡ entry (distances_of (records_of p)) X Y
        tables = same_table (records_of p) v s out t f_true

        far_is : some_too_far n (at t) ≡ some_too_far (points (records_of p)) (entry (distances_of (records_of p)))
        far_is = rw hn (same_far (points (records_of p)) (at t) (entry (distances_of (records_of p))) tables)

        pub close_far : {g : Bool} {r : Reading} → g ≡ some_too_far n (at t) → g ≡ true → r ≡ refused (refusal 63 0) → r ≡ close_of p
        unfolding close_of
        close_far hg eg k =
            let z : some_too_far (points (records_of p)) (entry (distances_of (records_of p))) ≡ true = sym far_is ∙ sym hg ∙ eg in
            rw (passed, none_there, h, z) k

        made_is : take n (records_of p) ++ records_by n (at t) ≡ made_of (records_of p)
        made_is = rw (hn, same_records (points (records_of p)) (at t) (entry (distances_of (records_of p))) tables) refl

        pub close_made : {g : Bool} {q : Plan} → g ≡ some_too_far n (at t) → g ≡ false → q ≡ plan_of (take n (records_of p) ++ records_by n (at t))
            → Ok q ≡ close_of p
        unfolding close_of
        close_made hg eg k =
            let z : some_too_far (points (records_of p)) (entry (distances_of (records_of p))) ≡ false = sym far_is ∙ sym hg ∙ eg in
            rw (passed, none_there, h, z, k, made_is) refl
