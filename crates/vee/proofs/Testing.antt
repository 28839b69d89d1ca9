-- The test of a plan, put together. Assumes nothing.
use mathlib.Core.Path.{◌≡◌, refl, ap}
use mathlib.Core.Bool.{Bool, true, false}
use mathlib.Core.List.{List, [], ◌∷◌}
use Prim.Native.Nat.{ℕ, zero, suc, ◌+◌, ◌-◌, ◌<◌, ◌≤◌}
use native.Mathlib.Omega.{arith}
use native.Mathlib.Decide.{ℕ_discrete, dec_lt}
use borrow.Author.Tests.{ne_eqb, ltb-false}
use lib.Dec.{eqb, ltb}
use lib.ListN.{length, get_or, length-replicate, get_or-replicate, length-take, get_or-eq_default}
use Rattle.plan.specs.Limits.{most_points, most_records, farthest}
use Rattle.plan.specs.APlan.{point, link, is, how_many, blank, records_of}
use Rattle.records.specs.declared.Record.{Record}
use Rattle.plan.specs.declared.Plan.{Plan}
use Rattle.plan.specs.declared.Refusal.{Refusal}
use Rattle.plan.specs.ReplyNumbers.{check_of, check_with}
use Rattle.vee.specs.declared.Answer.{Answer}
use Rattle.vee.specs.declared.Answer.TheVariants as answer
use Rattle.rows.specs.Sheet.{by}
use Rattle.rows.specs.Layout.{LaidOut}
use Rattle.projection.proofs.Laws.{same_cycle, same_good, same_bad}
use Rattle.vee.specs.PlanTest.{Span, span_of, spans, projections, many, most_projections, unset, Found, all_good, good, cycle, pair, edges_of, Tested, refused, too_many, tested}
use Rattle.vee.specs.Walked.{span_at, spans_in, RowsReady, CountedAs, WalkReady, Walked}
use Rattle.vee.proofs.Rules.{Valid, valid}
use Rattle.vee.proofs.Plans.{Whole, w_point, w_link, w_ordinary, w_wait, whole, linked, gap_up}
use Rattle.vee.proofs.Sheets.{sheet_ready, to_sheet, from_sheet}
use Rattle.vee.proofs.Orders.{Up, up_none, up_more, ups, from_start, span_here, span_not}

-- what is found of edges is found of the same edges
pub same_found : {E F : List ℕ → ℕ → ℕ → ℕ → ℕ → Type 0} → ((w : List ℕ) (X Y u d : ℕ) → E w X Y u d → F w X Y u d) → ((w : List ℕ) (X Y u d : ℕ) → F w X Y u d → E w X Y u d) → {i : ℕ} {ws : List (List ℕ)} {r : Answer} → Found E i ws r → Found F i ws r
same_found to from all_good = all_good
same_found to from (good {w = w} g f) = good (same_good (to w) (from w) g) (same_found to from f)
same_found to from (cycle {w = w} c) = cycle (same_cycle (to w) (from w) c)
same_found to from (pair {w = w} b) = pair (same_bad (to w) (from w) b)

-- a link has a duration, and none is too long
record Able (l : Span) : Type 0 where
  some : l.least ≤ l.most
  short : l.most ≤ farthest

data All : List Span → Type 0 where
  none : All []
  also : {l : Span} {ls : List Span} → Able l → All ls → All (l ∷ ls)

able : {RS : List Record} {r : Record} → r.kind ≡ 2 → Whole RS r → Able (span_of r)
able e w = let l = linked e w in record { some = omega (arith, gap_up l.least, gap_up l.most, l.some); short = omega (arith, gap_up l.most, l.short) }

all_able : (RS rs : List Record) → ((i : ℕ) → i < length rs → Whole RS (get_or rs i blank)) → All (spans rs)
unfolding spans
all_able RS [] h = none
all_able RS (r ∷ rs) h =
    let i = all_able RS rs (λ i l. h (suc i) (omega arith)) in
    elim (ℕ_discrete r.kind 2) [
      | yes e ↦ rw (span_here r rs e) (also (able e (h 0 (omega arith))) i)
      | no e ↦ rw (span_not r rs e) i
    ]

able_at : (s : List ℕ) (past k : ℕ) → All (spans_in s past k) → k ≤ past → (q : ℕ) → q < past → past ≤ q + k → Able (span_at s q)
unfolding spans_in
able_at s past zero a h q l m = absurd (omega arith)
able_at s past (suc k) (also x a) h q l m = elim (ℕ_discrete q (past - suc k)) [
  | yes e ↦ rw e x
  | no e ↦ able_at s past k a (omega arith) q l (omega arith)
]

-- durations that are not set
pub nothing_lasts : (C : ℕ) → by unset C ≤ farthest
nothing_lasts C = elim (dec_lt C most_points) [
  | yes h ↦ omega (arith, get_or-replicate {A = ℕ} most_points C 0 0 h)
  | no h ↦ omega (arith, get_or-eq_default {A = ℕ} unset 0 {n = C} (omega (arith, length-replicate {A = ℕ} most_points 0)))
]

module _ (rs : List Record) (v : Valid [] rs) (s : List ℕ) (out : LaidOut rs s) (few : length rs ≤ most_records) where
  l : ℕ
  l = how_many (is link) rs

  known : (i : ℕ) → i < length rs → 1 ≤ (get_or rs i blank).kind
  known i h = go (whole rs v i h)
    where
      go : Whole rs (get_or rs i blank) → 1 ≤ (get_or rs i blank).kind
      go (w_point k _) = omega arith
      go (w_link k _ _ _ _ _ _ _) = omega arith
      go (w_ordinary k _ _ _ _) = omega arith
      go (w_wait k _ _ _ _ _) = omega arith

  up_one : (rs : List Record) → ((i : ℕ) → i < length rs → 1 ≤ (get_or rs i blank).kind) → {k : ℕ} → Up k rs → Up 1 rs
  up_one rs h up_none = up_none
  up_one rs h (up_more k u) = up_more (h 0 (omega arith)) u

  pub links_are : spans_in s (how_many (is point) rs + how_many (is link) rs) (how_many (is link) rs) ≡ spans rs
  links_are =
      let z : 0 + (how_many (is point) rs + how_many (is link) rs) ≡ how_many (is point) rs + how_many (is link) rs = omega arith in
      let e = from_start s rs (omega arith) (up_one rs known (ups v)) 0 (λ i h. let y : 0 + i ≡ i = omega arith in rw y (out.rows i h)) in
      rw z at e

  -- points and links are among the records
  among : (rs : List Record) → how_many (is point) rs + how_many (is link) rs ≤ length rs
  unfolding how_many
  among [] = omega arith
  among (r ∷ rs) =
      let i = among rs in
      elim (ℕ_discrete r.kind 1) [
        | yes e ↦ rw e (omega arith)
        | no e ↦ elim (ℕ_discrete r.kind 2) [
          | yes f ↦ rw f (omega arith)
          | no f ↦ rw (ne_eqb r.kind 1 e, ne_eqb r.kind 2 f) (omega arith)
        ]
      ]

  able_rows : (q : ℕ) → q < how_many (is point) rs + how_many (is link) rs → how_many (is point) rs + how_many (is link) rs ≤ q + how_many (is link) rs → Able (span_at s q)
  able_rows = able_at s (how_many (is point) rs + how_many (is link) rs) (how_many (is link) rs) (rw links_are (all_able rs rs (whole rs v))) (omega arith)

  pub may_count : RowsReady s (how_many (is point) rs + how_many (is link) rs) (how_many (is link) rs)
  may_count = record {
    before = omega arith;
    rows = omega (arith, among rs);
    some = λ q h k. (able_rows q h k).some;
    short = λ q h k. (able_rows q h k).short;
  }

  pub may_walk : many (spans_in s (how_many (is point) rs + how_many (is link) rs) (how_many (is link) rs)) ≤ most_projections → WalkReady s unset (length rs) (how_many (is point) rs) (how_many (is point) rs + how_many (is link) rs) (how_many (is link) rs) 0
  may_walk h = record {
    ready = sheet_ready rs v s out unset few (length-replicate {A = ℕ} most_points 0) nothing_lasts;
    before = omega arith;
    rows = among rs;
    some = λ q h k. (able_rows q h k).some;
    short = λ q h k. (able_rows q h k).short;
    room = omega arith;
  }

  pub found : {r : Answer} → Walked s unset (length rs) (how_many (is point) rs + how_many (is link) rs) (how_many (is link) rs) 0 r → Found (edges_of rs) 0 (projections (spans rs) unset) r
  found w = same_found (λ w. from_sheet rs v s out w) (λ w. to_sheet rs v s out w) (rw links_are at w)

-- a plan that is not refused
pub accepted_plan : (p : Plan) → (check_of p).number ≡ 0 → (p.count ≤ most_records) × Valid [] (records_of p)
unfolding check_with
accepted_plan p e = go (eqb p.count 0) refl (ltb most_records p.count) refl
  where
    go : (a : Bool) → eqb p.count 0 ≡ a → (b : Bool) → ltb most_records p.count ≡ b → (p.count ≤ most_records) × Valid [] (records_of p)
    go true h b k = absurd (let z : ◌≡◌ {A = ℕ} 1 0 = rw h at e in omega arith)
    go false h true k = absurd (let z : ◌≡◌ {A = ℕ} 3 0 = rw (h, k) at e in omega arith)
    go false h false k = (ltb-false most_records p.count k, valid [] (records_of p) (rw (h, k) at e))

pub refused_plan : (p : Plan) {x : Refusal} → x ≡ check_of p → (x.number ≡ 0 → ⊥) → Tested p (answer.Refused x.number x.place)
refused_plan p e h = rw e (refused (λ k. h (rw e k)))

module _ (p : Plan) {x : Refusal} (ex : x ≡ check_of p) (ok : x.number ≡ 0) where
  passed : (check_of p).number ≡ 0
  passed = rw (← ex) ok

  pub few_records : p.count ≤ most_records
  few_records = (accepted_plan p passed).0

  module _ (long : length p.records ≡ most_records) {s : List ℕ} (out : LaidOut (records_of p) s) {n l : ℕ} (hn : n ≡ how_many (is point) (records_of p)) (hl : l ≡ how_many (is link) (records_of p)) where
    v : Valid [] (records_of p)
    v = (accepted_plan p passed).1

    all_records : length (records_of p) ≡ p.count
    all_records = omega (arith, length-take p.count p.records, few_records)

    fits : length (records_of p) ≤ most_records
    fits = omega (arith, all_records, few_records)

    pub rows_ready : RowsReady s (n + l) l
    rows_ready = rw (hn, hl) (may_count (records_of p) v s out fits)

    module _ {k : ℕ} (c : CountedAs s (n + l) l k) where
      same_many : many (spans_in s (n + l) l) ≡ many (spans (records_of p))
      same_many = rw (hn, hl) (ap many (links_are (records_of p) v s out fits))

      pub too_many_plan : most_projections < k → Tested p (answer.Refused 13 0)
      too_many_plan h = too_many passed (omega (arith, c.many_more h, same_many))

      pub walk_ready : k ≤ most_projections → WalkReady s unset p.count n (n + l) l 0
      walk_ready h =
          let m : many (spans_in s (n + l) l) ≤ most_projections = omega (arith, c.few h) in
          rw (← all_records, hn, hl) (may_walk (records_of p) v s out fits (rw (hn, hl) at m))

      pub tested_plan : {r : Answer} → k ≤ most_projections → Walked s unset p.count (n + l) l 0 r → Tested p r
      tested_plan {r} h w =
          tested passed (omega (arith, c.few h, same_many)) (found (records_of p) v s out fits (rw (← all_records, hn, hl) at w))
