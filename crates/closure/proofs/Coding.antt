-- What the functions that look for far distances and make the records rest on: the numbers of a table, the first that is so, and
-- records that are filled in from the front. Assumes nothing.
use mathlib.Core.Path.{◌≡◌, refl, sym, ap, ◌∙◌}
use mathlib.Core.Bool.{Bool, true, false, not, ◌&&◌, ◌||◌}
use mathlib.Core.List.{List, [], ◌∷◌, ◌++◌, append_assoc, append-nil}
use Prim.Native.Nat.{ℕ, suc, ◌+◌, ◌-◌, ◌*◌, ◌<◌, ◌≤◌}
use native.Mathlib.Omega.{arith}
use native.Mathlib.Numerals.{add-one}
use native.Mathlib.Decide.{dec_lt}
use lib.Dec.{eqb, ltb}
use lib.IntN.{sub_ℕ}
use lib.ListN.{length, get_or, set, take, replicate, length-append, length-take}
use lib.Seq.{set_at, append_snoc, take-suc, take_all, get_or-take, length-take-le}
use borrow.Author.Tests.{ltb-true, lt-ltb, le-ltb}
use Rattle.std.specs.Prelude.{if◌then◌else◌}
use Rattle.std.specs.Bool.{MatchBool}
use Rattle.plan.specs.Limits.{most_records, farthest}
use Rattle.plan.specs.APlan.{one, some, blank, records_of, plan_of}
use Rattle.plan.specs.PlanFile.{signed_of}
use Rattle.plan.specs.Haul.{an_ordinary}
use Rattle.plan.proofs.Records.{some_snoc}
use Rattle.plan.proofs.RoundTrip.{records_of_plan}
use Rattle.records.specs.declared.Record.{Record}
use Rattle.plan.specs.declared.Plan.{Plan}
use Rattle.tables.specs.Tables.{Table, bias, none, side}
use Rattle.tables.specs.Entries.{middle, nowhere, wide}
use Rattle.tables.proofs.Widths.{wide_in, wide_out, wide_there, finite}
use Rattle.vee.specs.TestOf.{first, among}
use Rattle.vee.proofs.Executable.{first_so, none_among}
use Rattle.vee.proofs.Rules.{both, clash}
use Rattle.closure.specs.Closing.{is_step, has_steps, record_of, gathered, row_of, records_by, too_far}
use Rattle.closure.specs.Inside.{RowReady, RowsReady, PointsReady}
use Rattle.closure.proofs.Gathering.{gathered_more}
use Rattle.closure.proofs.Making.{pairs, row_few}

-- ---- the numbers of a table

same_ltb : (a b c d : ℕ) → (a < b → c < d) → (c < d → a < b) → ltb a b ≡ ltb c d
same_ltb a b c d to from = elim (dec_lt a b) [
  | yes h ↦ lt-ltb a b h ∙ sym (lt-ltb c d (to h))
  | no h ↦ le-ltb a b (omega arith) ∙ sym (le-ltb c d (go (dec_lt c d) h))
]
  where
    go : Dec (c < d) → (a < b → ⊥) → d ≤ c
    go (yes l) h = absurd (h (from l))
    go (no l) h = omega arith

pub far_wide : (v : ℕ) → (ltb v nowhere && (ltb v 536770912 || ltb 536970912 v)) ≡ too_far (wide v)
far_wide v = elim (dec_lt v nowhere) [
  | yes h ↦
      let e = wide_in v h in
      rw (e, lt-ltb v nowhere h, lt-ltb (v + 1125899369971712) none (omega arith), same_ltb v 536770912 (v + 1125899369971712 + farthest) bias (λ l. omega arith) (λ l. omega arith), same_ltb 536970912 v (bias + farthest) (v + 1125899369971712) (λ l. omega arith) (λ l. omega arith)) refl
  | no h ↦ rw (wide_out v (omega arith), le-ltb v nowhere (omega arith)) refl
]

pub bound_below : (v : ℕ) → v < middle → signed_of (4294967295 - (middle - 1 - v)) ≡ sub_ℕ (wide v) bias
bound_below v h =
    let e : 4294967295 - (4294967295 - (middle - 1 - v)) ≡ middle - 1 - v = omega arith in
    let d : bias - suc (v + 1125899369971712) ≡ middle - 1 - v = omega arith in
    rw (wide_in v (omega arith), le-ltb (4294967295 - (middle - 1 - v)) 2147483648 (omega arith), lt-ltb (v + 1125899369971712) bias (omega arith), e, d) refl

pub bound_above : (v : ℕ) → middle ≤ v → v < nowhere → signed_of (v - middle) ≡ sub_ℕ (wide v) bias
bound_above v l h =
    let d : v + 1125899369971712 - bias ≡ v - middle = omega arith in
    rw (wide_in v h, lt-ltb (v - middle) 2147483648 (omega arith), le-ltb (v + 1125899369971712) bias (omega arith), d) refl

-- whether a path joins the two
pub pairs_wide : (x y v : ℕ) → (not (eqb x y) && ltb v nowhere) ≡ pairs x y (wide v)
pairs_wide x y v = ap (λ (b : Bool). not (eqb x y) && b) (same_ltb v nowhere (wide v) none (wide_there v) (finite v))

pub pairs_there : (x y v : ℕ) → (not (eqb x y) && ltb v nowhere) ≡ true → v < nowhere
pairs_there x y v e = ltb-true v nowhere (both (not (eqb x y)) (ltb v nowhere) e).1

-- ---- the first that is so

module _ (n : ℕ) (so : ℕ → Bool) where
  pub one_among : (j : ℕ) → j < n → so j ≡ true → true ≡ among n so
  one_among j h e = go (among n so) refl
    where
      go : (b : Bool) → among n so ≡ b → true ≡ b
      go true k = refl
      go false k = clash (sym e ∙ none_among n so k j h)

  pub not_among : ((j : ℕ) → j < n → so j ≡ false) → false ≡ among n so
  not_among h = go (among n so) refl
    where
      go : (b : Bool) → among n so ≡ b → false ≡ b
      go false k = refl
      go true k = let l : first n so < n = ltb-true (first n so) n k in clash (sym (first_so n so l) ∙ h (first n so) l)

-- whether one is, as a search answers it
pub among_by : (n : ℕ) (so : ℕ → Bool) (r : Bool) → MatchBool r ((j : ℕ) × (j < n) × (so j ≡ true)) ((j : ℕ) → j < n → so j ≡ false) → r ≡ among n so
among_by n so true h = one_among n so h.0 h.1 h.2
among_by n so false h = not_among n so h

-- ---- steps

module _ (p : Plan) where
  -- whether one of the first i records is a step
  abbrev pub Looked : Bool → ℕ → Type 0
  Looked found i = (i ≤ p.count) × (found ≡ some is_step (take i (records_of p)))

  pub looked_none : Looked false 0
  unfolding some
  looked_none = (omega arith, refl)

  module _ (found : Bool) (i : ℕ) (long : length p.records ≡ most_records) (few : p.count ≤ most_records) where
    pub looked_more : i < p.count → Looked found i → Looked (is_step (get_or p.records i blank) || found) (i + 1)
    looked_more h l =
        let n = length-take-le p.count p.records (omega arith) in
        (omega arith, rw (l.1, add-one i, take-suc (records_of p) i blank (omega (arith, n)), some_snoc is_step (take i (records_of p)) (get_or (records_of p) i blank), get_or-take p.count p.records i blank h) refl)

    pub looked_all : p.count ≤ i → Looked found i → found ≡ has_steps (records_of p)
    looked_all h l = l.1 ∙ ap (λ (q : List Record). some is_step q) (take_all i (records_of p) (omega (arith, length-take p.count p.records)))

-- ---- records filled in from the front

-- one record more
stored : (rs : List Record) (i : ℕ) (r : Record) → length rs ≡ i → i < most_records
    → set (rs ++ replicate (most_records - i) blank) i r ≡ (rs ++ (r ∷ [])) ++ replicate (most_records - (i + 1)) blank
stored rs i r n h =
    let e : most_records - i ≡ suc (most_records - (i + 1)) = omega arith in
    rw e (set_at rs blank (replicate (most_records - (i + 1)) blank) r i n ∙ sym (append_snoc rs r (replicate (most_records - (i + 1)) blank)))

-- rs stand in the first i places, and the room after them is zero
pub record FilledWith (rs : List Record) (records : List Record) (i : ℕ) : Type 0 where
  pub records_are : records ≡ rs ++ replicate (most_records - i) blank
  pub many : length rs ≡ i

pub filled_none : FilledWith [] (replicate most_records blank) 0
filled_none = record { records_are = refl; many = refl }

pub filled_more : {rs records : List Record} {i : ℕ} (r : Record) → FilledWith rs records i → i < most_records → FilledWith (rs ++ (r ∷ [])) (set records i r) (i + 1)
filled_more {rs} {records} {i} r f h = record {
  records_are = rw f.records_are (stored rs i r f.many h);
  many = omega (arith, length-append rs (r ∷ []), f.many);
}

-- zeros stored where zeros are change nothing
kept_zeros : {rs records : List Record} {i : ℕ} → FilledWith rs records i → i < most_records → set records i blank ≡ records
kept_zeros {rs} {records} {i} f h =
    let e : most_records - i ≡ suc (most_records - (i + 1)) = omega arith in
    rw (f.records_are, e) (set_at rs blank (replicate (most_records - (i + 1)) blank) blank i f.many)

pub filled_plan : {rs records : List Record} {i : ℕ} → FilledWith rs records i → ◌≡◌ {A = Plan} (record { count = i; records = records }) (plan_of rs)
filled_plan f = rw (f.records_are, f.many) refl

-- a plan whose other room is zero is filled with its records
pub filled_whole : (p : Plan) → p ≡ plan_of (records_of p) → FilledWith (records_of p) p.records p.count
filled_whole p e = record {
  records_are = ap (λ (q : Plan). q.records) e ∙ ap (λ (i : ℕ). records_of p ++ replicate (most_records - i) blank) (sym (ap (λ (q : Plan). q.count) e));
  many = sym (ap (λ (q : Plan). q.count) e);
}

-- the first i of a plan's first n records are copied
module _ (p : Plan) (n : ℕ) where
  abbrev pub Copied : List Record → ℕ → Type 0
  Copied records i = (i ≤ n) × FilledWith (take i (records_of p)) records i

  pub copied_none : Copied (replicate most_records blank) 0
  copied_none = (omega arith, filled_none)

  pub copied_more : {records : List Record} {i : ℕ} → length p.records ≡ most_records → PointsReady p n → i < n → Copied records i
      → Copied (set records i (get_or p.records i blank)) (i + 1)
  copied_more {records} {i} long h l f =
      let m = length-take-le p.count p.records (omega (arith, h.count)) in
      let g = get_or-take p.count p.records i blank (omega (arith, h.there)) in
      let z : take (i + 1) (records_of p) ≡ take i (records_of p) ++ (get_or p.records i blank ∷ []) =
      rw (add-one i, take-suc (records_of p) i blank (omega (arith, m, h.there)), g) refl in
      (omega arith, rw z (filled_more (get_or p.records i blank) f.1 (omega (arith, h.few))))

  pub copied_all : {records : List Record} {i : ℕ} → Copied records i → n ≤ i → ◌≡◌ {A = Plan} (record { count = n; records = records }) (plan_of (take n (records_of p)))
  copied_all {records} {i} f h = let z : i ≡ n = omega (arith, f.0) in filled_plan (rw z at f.1)

-- ---- the records from x

module _ (rs : List Record) (n : ℕ) (f : Table) (x : ℕ) where
  abbrev pub sofar : ℕ → List Record
  sofar y = rs ++ gathered 0 y (λ Y. record_of x Y (f x Y))

  -- those of the pairs below y are added
  pub record RowSofar (y : ℕ) (records : List Record) (count : ℕ) : Type 0 where
    pub below : y ≤ n
    pub filled : FilledWith (sofar y) records count
    pub few : count ≤ length rs + y

  pub row_start : {records : List Record} {count : ℕ} → FilledWith rs records count → RowSofar 0 records count
  unfolding gathered
  row_start {records} {count} h = record { below = omega arith; filled = rw (append-nil rs) h; few = omega (arith, h.many) }

  one_more : (y : ℕ) → sofar (y + 1) ≡ sofar y ++ record_of x y (f x y)
  one_more y =
      let z : 0 + y ≡ y = omega arith in
      rw (add-one y, gathered_more 0 y (λ Y. record_of x Y (f x Y)), z) (sym (append_assoc rs (gathered 0 y (λ Y. record_of x Y (f x Y))) (record_of x y (f x y))))

  module _ {y : ℕ} {records : List Record} {count : ℕ} (s : RowSofar y records count) (h : y < n) where
    row_add : (r : Record) → pairs x y (f x y) ≡ true → r ≡ an_ordinary x (sub_ℕ (f x y) bias) y → count < most_records → RowSofar (y + 1) (set records count r) (count + 1)
    row_add r e k m = record {
      below = omega arith;
      filled = rw (one_more y, e, ← k) (filled_more r s.filled m);
      few = omega (arith, s.few);
    }

    row_skip : pairs x y (f x y) ≡ false → RowSofar (y + 1) records count
    row_skip e = record { below = omega arith; filled = rw (one_more y, e, append-nil (sofar y)) s.filled; few = omega (arith, s.few) }

    -- where the pair makes no record, zeros are stored where zeros were, and nothing is counted
    pub row_more : (so : Bool) (r : Record) (k : ℕ) → so ≡ pairs x y (f x y) → r ≡ (if so then an_ordinary x (sub_ℕ (f x y) bias) y else blank) → k ≡ one so → count < most_records
        → RowSofar (y + 1) (set records count r) (count + k)
    row_more true r k hs hr hk m = rw hk (row_add r (sym hs) hr m)
    row_more false r k hs hr hk m =
        let z : count + 0 ≡ count = omega arith in
        rw (hk, z, hr, kept_zeros s.filled m) (row_skip (sym hs))

  pub row_end : {y : ℕ} {records : List Record} {count : ℕ} → RowSofar y records count → n ≤ y → ◌≡◌ {A = Plan} (record { count = count; records = records }) (plan_of (rs ++ row_of n f x))
  row_end {y} s h = let z : y ≡ n = omega (arith, s.below) in filled_plan (rw z at s.filled)

-- ---- the records of all pairs

module _ (rs : List Record) (n : ℕ) (f : Table) where
  -- those from the points below x are added
  pub record RowsSofar (x : ℕ) (p : Plan) : Type 0 where
    pub less : n ≤ side
    pub below : x ≤ n
    pub made : p ≡ plan_of (rs ++ gathered 0 x (row_of n f))
    pub few : length (rs ++ gathered 0 x (row_of n f)) ≤ side + side * x

  pub rows_start : {p : Plan} → rs ≡ records_of p → RowsReady p n → RowsSofar 0 p
  unfolding gathered
  rows_start {p} e h = record {
    less = h.few;
    below = omega arith;
    made = rw (append-nil rs) (h.whole ∙ ap plan_of (sym e));
    few = rw (append-nil rs) (omega (arith, ap (λ (q : List Record). length q) e, h.room));
  }

  module _ {x : ℕ} {p : Plan} (s : RowsSofar x p) where
    records_in_lem : records_of p ≡ rs ++ gathered 0 x (row_of n f)
    records_in_lem = ap (λ (q : Plan). records_of q) s.made ∙ records_of_plan (rs ++ gathered 0 x (row_of n f))

    pub row_ready : x < n → RowReady p n x
    row_ready h = record {
      whole = s.made ∙ ap plan_of (sym records_in_lem);
      room = omega (arith, ap (λ (q : List Record). length q) records_in_lem, s.few, s.less);
      few = s.less;
      below = h;
    }

    pub rows_more : x < n → {q : Plan} → q ≡ plan_of (records_of p ++ row_of n f x) → RowsSofar (x + 1) q
    rows_more h {q} e =
        let z : 0 + x ≡ x = omega arith in
        let g : gathered 0 (x + 1) (row_of n f) ≡ gathered 0 x (row_of n f) ++ row_of n f x = rw (add-one x, gathered_more 0 x (row_of n f), z) refl in
        let m : rs ++ gathered 0 (x + 1) (row_of n f) ≡ rs ++ gathered 0 x (row_of n f) ++ row_of n f x = rw g (sym (append_assoc rs (gathered 0 x (row_of n f)) (row_of n f x))) in
        record {
          less = s.less;
          below = omega arith;
          made = e ∙ ap plan_of (ap (λ (l : List Record). l ++ row_of n f x) records_in_lem ∙ sym m);
          few = omega (arith, ap (λ (l : List Record). length l) m, length-append (rs ++ gathered 0 x (row_of n f)) (row_of n f x), s.few, s.less, row_few n f x);
        }

    pub rows_end : n ≤ x → p ≡ plan_of (rs ++ records_by n f)
    rows_end h = let z : x ≡ n = omega (arith, s.below) in rw z at s.made

-- the first records of a plan can be added to
pub rows_ready : {p q : Plan} {n : ℕ} → PointsReady p n → q ≡ plan_of (take n (records_of p)) → RowsReady q n
rows_ready {p} {q} {n} h e =
    let r : records_of q ≡ take n (records_of p) = ap (λ (x : Plan). records_of x) e ∙ records_of_plan (take n (records_of p)) in
    record {
      whole = e ∙ ap plan_of (sym r);
      room = omega (arith, ap (λ (l : List Record). length l) r, length-take n (records_of p), h.few);
      few = h.few;
    }

pub rows_made : (p : Plan) (n : ℕ) (f : Table) {q r : Plan} → q ≡ plan_of (take n (records_of p)) → r ≡ plan_of (records_of q ++ records_by n f)
    → r ≡ plan_of (take n (records_of p) ++ records_by n f)
rows_made p n f e h =
    h ∙ ap (λ (l : List Record). plan_of (l ++ records_by n f)) (ap (λ (x : Plan). records_of x) e ∙ records_of_plan (take n (records_of p)))
