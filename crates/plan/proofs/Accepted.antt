-- What the records of an accepted plan keep, as facts about all of them: each rule looked only at the records before its
-- own, and kinds never fall, so no later record undoes it. Assumes nothing.
use mathlib.Core.Path.{◌≡◌, refl, sym, ◌∙◌}
use mathlib.Core.Bool.{Bool, true, false, not, ◌&&◌, ◌||◌}
use mathlib.Core.List.{List, [], ◌∷◌, ◌++◌, map, append-nil}
use Prim.Native.Nat.{ℕ, zero, suc, ◌+◌, ◌≤◌, ◌<◌}
use native.Mathlib.Omega.{arith}
use lib.Dec.{eqb, ltb}
use lib.IntN.{ℤ, pos, negsuc, neg_ℤ}
use lib.Signed.{le_z, lt_z}
use lib.ListN.{length, get_or, length-append, get_or-append}
use lib.Seq.{append_snoc, get_or-append_seam}
use borrow.Author.Tests.{ltb-true, leb-true, eqb-true, eqb-false, eq-eqb, ne_eqb, not-true}
use native.Mathlib.Decide.{dec_lt}
use Rattle.std.specs.Prelude.{if◌then◌else◌}
use Rattle.plan.specs.Limits.{most_points, most_records, farthest}
use Rattle.plan.specs.APlan.{Kind, point, link, ordinary, wait, unknown, kind_of, byte_of, is, one, how_many, some, points, watched, ends_at, from_to, first_that, link_to, blank, gap_of, records_of}
use Rattle.plan.specs.ReplyNumbers.{after, is_known, last_kind, number_of, first_bad, first_bad_with, refusal, check_of, check_with}
use Rattle.plan.specs.Held.{plain}
use Rattle.records.specs.declared.Record.{Record}
use Rattle.plan.specs.declared.Plan.{Plan}
use Rattle.plan.specs.declared.Refusal.{Refusal}
use Rattle.rules.proofs.Passed.{Passed, passed}
use Rattle.plan.proofs.Entries as Entries
use Rattle.plan.proofs.Records.{last_snoc, many_snoc, some_snoc, first_not_lem, first_old, first_so}
use Rattle.rules.proofs.Shows.{both, kind_byte}

-- what the record r, one of rs, keeps
pub record Rules (rs : List Record) (r : Record) : Type 0 where
  pub known : is_known (kind_of r.kind) ≡ true
  pub names : is point r ≡ false → (r.a < points rs) × (r.b < points rs)
  pub differ : is point r ≡ false → r.a ≡ r.b → ⊥
  pub link_bounds : is link r ≡ true → (1 ≤ (gap_of r.first).up) × ((gap_of r.first).up < (gap_of r.second).up) × ((gap_of r.second).up ≤ farthest)
  -- no other link ends there
  pub link_alone : is link r ≡ true → link_to rs r.b ≡ r
  pub ordinary_bounds : is ordinary r ≡ true → ((gap_of r.first).up ≤ farthest) × ((gap_of r.first).down ≤ farthest)
  pub wait_watched : is wait r ≡ true → watched rs r.b ≡ true
  pub wait_foremans : is wait r ≡ true → watched rs r.a ≡ false
  pub wait_other : is wait r ≡ true → r.a ≡ (link_to rs r.b).a → ⊥
  pub wait_bounds : is wait r ≡ true → (1 ≤ (gap_of r.first).up) × ((gap_of r.first).up ≤ (gap_of (link_to rs r.b).second).up)

-- two ordinary records from the same point to the same point
pub record Twins (x y : Record) : Type 0 where
  pub one : is ordinary x ≡ true
  pub other : is ordinary y ≡ true
  pub from : x.a ≡ y.a
  pub to : x.b ≡ y.b

pub record Accepted (rs : List Record) : Type 0 where
  pub few : points rs ≤ most_points
  pub each : (i : ℕ) → i < length rs → Rules rs (get_or rs i blank)
  -- no two ordinary records have the same two points, in the same order
  pub no_twins : (i j : ℕ) → i < length rs → j < length rs → Twins (get_or rs i blank) (get_or rs j blank) → i ≡ j
  -- kinds never fall
  pub sorted : (i j : ℕ) → i ≤ j → j < length rs → (get_or rs i blank).kind ≤ (get_or rs j blank).kind
  -- a watched point has its link among the records
  pub ends : (c : ℕ) → watched rs c ≡ true → (is link (link_to rs c) ≡ true) × ((link_to rs c).b ≡ c) × ((i : ℕ) × (i < length rs) × (get_or rs i blank ≡ link_to rs c))

-- ---- one of some records

clash : {A : Type 0} → true ≡ false → A
clash e = absurd (let z : ◌≡◌ {A = ℕ} 0 1 = cc in omega arith)

-- Where one of the records is so, some record is so.
pub get_d_some : (so : Record → Bool) (rs : List Record) (i : ℕ) → i < length rs → so (get_or rs i blank) ≡ true → some so rs ≡ true
unfolding some
get_d_some so [] i h e = absurd (omega arith)
get_d_some so (r ∷ rs) zero h e = rw e
get_d_some so (r ∷ rs) (suc i) h e = rw (get_d_some so rs i (omega arith) e) (or_true (so r))
  where
    or_true : (b : Bool) → (b || true) ≡ true
    or_true true = refl
    or_true false = refl

-- Where some record is so, the first that is so is one of the records.
pub first_found : (so : Record → Bool) (rs : List Record) → some so rs ≡ true
    → (so (first_that so rs) ≡ true) × ((i : ℕ) × (i < length rs) × (get_or rs i blank ≡ first_that so rs))
unfolding some first_that
first_found so [] e = clash (sym e)
first_found so (r ∷ rs) e = go (so r) refl e (first_found so rs)
  where
    go : (b : Bool) → so r ≡ b → (b || some so rs) ≡ true
        → (some so rs ≡ true → (so (first_that so rs) ≡ true) × ((i : ℕ) × (i < length rs) × (get_or rs i blank ≡ first_that so rs)))
        → (so (if b then r else first_that so rs) ≡ true) × ((i : ℕ) × (i < length (r ∷ rs)) × (get_or (r ∷ rs) i blank ≡ (if b then r else first_that so rs)))
    go true t e f = (t, (0, omega arith, refl))
    go false t e f = let g = f e in (g.0, (suc g.1.0, omega (arith, g.1.1), g.1.2))

-- A record of one kind is of no other.
pub not_a : (r : Record) (j k : Kind) → (byte_of j ≡ byte_of k → ⊥) → is j r ≡ true → is k r ≡ false
not_a r j k n e = ne_eqb r.kind (byte_of k) (λ f. n (sym (eqb-true r.kind (byte_of j) e) ∙ f))

-- ---- bounds, as what they add and take away

le_up : (x y : ℤ) → le_z x y ≡ true → (gap_of x).up ≤ (gap_of y).up
le_up (pos m) (pos n) e = leb-true m n e
le_up (pos m) (negsuc n) e = clash (sym e)
le_up (negsuc m) y e = omega arith

le_down : (x y : ℤ) → le_z x y ≡ true → (gap_of y).down ≤ (gap_of x).down
le_down (pos m) (pos n) e = omega arith
le_down (pos m) (negsuc n) e = clash (sym e)
le_down (negsuc m) (pos n) e = omega arith
le_down (negsuc m) (negsuc n) e = omega (arith, leb-true n m e)

lt_up : (x y : ℤ) → 1 ≤ (gap_of x).up → lt_z x y ≡ true → (gap_of x).up < (gap_of y).up
lt_up (pos m) (pos n) h e = ltb-true m n e
lt_up (pos m) (negsuc n) h e = clash (sym e)
lt_up (negsuc m) y h e = absurd (omega arith)

-- ---- one record more

-- what holds of the records so far
record Kept (rs : List Record) : Type 0 where
  few : points rs ≤ most_points
  each : (i : ℕ) → i < length rs → Rules rs (get_or rs i blank)
  twins : (i j : ℕ) → i < length rs → j < length rs → Twins (get_or rs i blank) (get_or rs j blank) → i ≡ j
  -- kinds never fall, and the last is the highest
  sorted : (i j : ℕ) → i ≤ j → j < length rs → (get_or rs i blank).kind ≤ (get_or rs j blank).kind
  order : (i : ℕ) → i < length rs → (get_or rs i blank).kind ≤ last_kind 0 rs

module _ (rs : List Record) (r : Record) (ok : number_of (after rs) r 0 ≡ 0) where
  abbrev more : List Record
  more = rs ++ (r ∷ [])

  pass : Passed (kind_of r.kind) (after rs) r 0
  pass = passed (kind_of r.kind) (after rs) r 0 ok

  of : (k : Kind) → is k r ≡ true → kind_of (byte_of k) ≡ k → Passed k (after rs) r 0
  of k e f =
      let g : kind_of r.kind ≡ k = rw (eqb-true r.kind (byte_of k) e) f in
      rw g at pass

  later : last_kind 0 rs ≤ r.kind
  later = leb-true (last_kind 0 rs) r.kind pass.order

  points_more : points more ≡ points rs + one (is point r)
  points_more = many_snoc (is point) rs r

  same_watched : is link r ≡ false → (p : ℕ) → watched more p ≡ watched rs p
  same_watched e p = rw (some_snoc (ends_at p) rs r, e)

  same_link : is link r ≡ false → (p : ℕ) → link_to more p ≡ link_to rs p
  same_link e p = first_not_lem (ends_at p) rs r (rw e)

  -- rule 10 for a link
  link_joins : is link r ≡ true → watched rs r.b ≡ false
  link_joins e = not-true _ (of link e refl).joins

  -- rule 10 for a wait
  wait_joins : is wait r ≡ true → (watched rs r.b ≡ true) × (watched rs r.a ≡ false) × (r.a ≡ (link_to rs r.b).a → ⊥)
  wait_joins e =
      let j = both (watched rs r.b) _ (of wait e refl).joins in
      let k = both (not (watched rs r.a)) _ j.1 in
      (j.0, not-true _ k.0, eqb-false _ _ (not-true _ k.1))

  -- an earlier record keeps its rules
  module _ (i : ℕ) (h : i < length rs) (x : Record) (at : get_or rs i blank ≡ x) (o : x.kind ≤ last_kind 0 rs) (w : Rules rs x) where
    no_link : is wait x ≡ true → is link r ≡ false
    no_link e = ne_eqb r.kind (byte_of link) (λ f. omega (arith, eqb-true x.kind (byte_of wait) e, later))

    old : Rules more x
    old =
        record {
          known = w.known;
          names = λ e. omega (arith, w.names e, points_more);
          differ = w.differ;
          link_bounds = w.link_bounds;
          link_alone = λ e. first_old (ends_at x.b) rs r (get_d_some (ends_at x.b) rs i h (rw (at, e) (eq-eqb x.b x.b refl))) ∙ w.link_alone e;
          ordinary_bounds = w.ordinary_bounds;
          wait_watched = λ e. same_watched (no_link e) x.b ∙ w.wait_watched e;
          wait_foremans = λ e. same_watched (no_link e) x.a ∙ w.wait_foremans e;
          wait_other = λ e. rw (same_link (no_link e) x.b) (w.wait_other e);
          wait_bounds = λ e. rw (same_link (no_link e) x.b) (w.wait_bounds e);
        }

  -- the new record keeps its own
  told_names : (ltb r.a (points rs) && ltb r.b (points rs)) ≡ true → not (eqb r.a r.b) ≡ true
      → (r.a < points rs) × (r.b < points rs) × (r.a ≡ r.b → ⊥)
  told_names n d =
      let m = both (ltb r.a (points rs)) _ n in
      (ltb-true _ _ m.0, ltb-true _ _ m.1, eqb-false _ _ (not-true _ d))

  two_names : (k : Kind) → kind_of r.kind ≡ k → Passed k (after rs) r 0 → is point r ≡ false → (r.a < points rs) × (r.b < points rs) × (r.a ≡ r.b → ⊥)
  two_names point e w f = clash (sym (eq-eqb _ _ (kind_byte r.kind point refl e)) ∙ f)
  two_names link e w f = told_names w.names w.differ
  two_names ordinary e w f = told_names w.names w.differ
  two_names wait e w f = told_names w.names w.differ
  two_names unknown e w f = clash (sym w.known)

  new_names : is point r ≡ false → (r.a < points rs) × (r.b < points rs) × (r.a ≡ r.b → ⊥)
  new_names = two_names (kind_of r.kind) refl pass

  new : Rules more r
  new =
      let wait_link = not_a r wait link (λ e. omega arith) in
      record {
        known = pass.known;
        names = λ e. omega (arith, (new_names e).0, (new_names e).1, points_more);
        differ = λ e. (new_names e).2;
        link_bounds = λ e.
            let j = both (le_z (pos 1) r.first) _ (of link e refl).bounds in
            let k = both (lt_z r.first r.second) _ j.1 in
            let low = le_up (pos 1) r.first j.0 in
            (low, lt_up r.first r.second low k.0, le_up r.second (pos farthest) k.1);
        link_alone = λ e. first_so (ends_at r.b) rs r (link_joins e) (rw e (eq-eqb r.b r.b refl));
        ordinary_bounds = λ e.
            let j = both (le_z (neg_ℤ (pos farthest)) r.first) _ (of ordinary e refl).bounds in
            (le_up r.first (pos farthest) j.1, le_down (neg_ℤ (pos farthest)) r.first j.0);
        wait_watched = λ e. same_watched (wait_link e) r.b ∙ (wait_joins e).0;
        wait_foremans = λ e. same_watched (wait_link e) r.a ∙ (wait_joins e).1;
        wait_other = λ e. rw (same_link (wait_link e) r.b) (wait_joins e).2;
        wait_bounds = λ e.
            let j = both (le_z (pos 1) r.first) _ (of wait e refl).bounds in
            rw (same_link (wait_link e) r.b) (le_up (pos 1) r.first j.0, le_up r.first _ j.1);
      }

  few_more : points rs ≤ most_points → (b : Bool) → is point r ≡ b → points rs + one b ≤ most_points
  few_more f true e = omega (arith, ltb-true (points rs) most_points (of point e refl).room)
  few_more f false e = omega arith

  module _ (w : Kept rs) where
    each_more : (i : ℕ) → i < length more → Dec (i < length rs) → Rules more (get_or more i blank) × ((get_or more i blank).kind ≤ r.kind)
    each_more i h (yes l) =
        let e = get_or-append rs (r ∷ []) blank i l in
        rw e (old i l (get_or rs i blank) refl (w.order i l) (w.each i l), omega (arith, w.order i l, later))
    each_more i h (no l) =
        let e : i ≡ length rs = omega (arith, length-append rs (r ∷ [])) in
        rw (e, get_or-append_seam rs r [] blank) (new, omega arith)

    -- an earlier record is no twin of the new one
    no_twin : (i : ℕ) → i < length rs → Twins (get_or rs i blank) r → ⊥
    no_twin i l t =
        let s = get_d_some (from_to r.a r.b) rs i l (rw t.one (rw (eq-eqb _ _ (sym t.from), eq-eqb _ _ (sym t.to)))) in
        clash (sym s ∙ not-true _ (of ordinary t.other refl).single)

    turned : {x y : Record} → Twins x y → Twins y x
    turned t = record { one = t.other; other = t.one; from = sym t.from; to = sym t.to }

    twins_more : (i j : ℕ) → i < length more → j < length more → Twins (get_or more i blank) (get_or more j blank) → Dec (i < length rs) → Dec (j < length rs) → i ≡ j
    twins_more i j h k t (yes l) (yes m) =
        w.twins i j l m (rw (get_or-append rs (r ∷ []) blank i l, get_or-append rs (r ∷ []) blank j m) at t)
    twins_more i j h k t (yes l) (no m) =
        let e : j ≡ length rs = omega (arith, length-append rs (r ∷ [])) in
        absurd (no_twin i l (rw (get_or-append rs (r ∷ []) blank i l, e, get_or-append_seam rs r [] blank) at t))
    twins_more i j h k t (no l) (yes m) =
        let e : i ≡ length rs = omega (arith, length-append rs (r ∷ [])) in
        absurd (no_twin j m (turned (rw (get_or-append rs (r ∷ []) blank j m, e, get_or-append_seam rs r [] blank) at t)))
    twins_more i j h k t (no l) (no m) = omega (arith, length-append rs (r ∷ []))

    sorted_more : (i j : ℕ) → i ≤ j → j < length more → Dec (j < length rs) → (get_or more i blank).kind ≤ (get_or more j blank).kind
    sorted_more i j o h (yes l) =
        rw (get_or-append rs (r ∷ []) blank i (omega arith), get_or-append rs (r ∷ []) blank j l) (w.sorted i j o l)
    sorted_more i j o h (no l) =
        let e : j ≡ length rs = omega (arith, length-append rs (r ∷ [])) in
        rw (e, get_or-append_seam rs r [] blank) (each_more i (omega arith) (dec_lt i (length rs))).1

    kept_more : Kept more
    kept_more =
        record {
          few = rw points_more (few_more w.few (is point r) refl);
          each = λ i h. (each_more i h (dec_lt i (length rs))).0;
          twins = λ i j h k t. twins_more i j h k t (dec_lt i (length rs)) (dec_lt j (length rs));
          sorted = λ i j o h. sorted_more i j o h (dec_lt j (length rs));
          order = λ i h. rw (last_snoc 0 rs r) (each_more i h (dec_lt i (length rs))).1;
        }

-- ---- all records

kept_none : Kept []
unfolding how_many
kept_none = record { few = omega arith; each = λ i h. absurd (omega arith); twins = λ i j h k t. absurd (omega arith); sorted = λ i j o h. absurd (omega arith); order = λ i h. absurd (omega arith) }

kept_all : (rs xs : List Record) → Kept rs → (first_bad rs (map plain xs)).number ≡ 0 → Kept (rs ++ xs)
unfolding first_bad_with
kept_all rs [] w e = rw (append-nil rs) w
kept_all rs (x ∷ xs) w e =
    let n : number_of (after rs) x 0 ≡ 0 = Entries.passed (λ (x : Refusal). x.number) _ _ _ refl e in
    rw (append_snoc rs x xs) at (kept_all (rs ++ (x ∷ [])) xs (kept_more rs x n w) (rw n at e))

-- Of a plan that passes the check no record is refused after those before it.
pub none_refused : (p : Plan) → (check_of p).number ≡ 0 → (first_bad [] (map plain (records_of p))).number ≡ 0
unfolding check_with
none_refused p e =
    let a = Entries.past (λ (x : Refusal). x.number) (eqb p.count 0) (refusal 1 0) _ (omega arith) e in
    (Entries.past (λ (x : Refusal). x.number) (ltb most_records p.count) (refusal 3 0) _ (omega arith) a.1).1

-- The records of a plan that passes the check keep each rule of document 01 among all of them.
pub accepted_plan : (p : Plan) → (check_of p).number ≡ 0 → Accepted (records_of p)
accepted_plan p e =
    let w = kept_all [] (records_of p) kept_none (none_refused p e) in
    record {
      few = w.few;
      each = w.each;
      no_twins = w.twins;
      sorted = w.sorted;
      ends = λ c h.
          let f = first_found (ends_at c) (records_of p) h in
          let g = both (is link (link_to (records_of p) c)) _ f.0 in
          (g.0, sym (eqb-true _ _ g.1), f.1);
    }

-- The first record of an accepted plan is a point's: any other names points that are missing there.
first_of : (rs : List Record) → (first_bad [] (map plain rs)).number ≡ 0 → 1 ≤ length rs → is point (get_or rs 0 blank) ≡ true
unfolding first_bad_with how_many
first_of [] e h = absurd (omega arith)
first_of (x ∷ xs) e h = go (is point x) refl
  where
    n : number_of (after []) x 0 ≡ 0
    n = Entries.passed (λ (x : Refusal). x.number) _ _ _ refl e

    go : (b : Bool) → is point x ≡ b → b ≡ true
    go true f = refl
    go false f =
        let z : points (x ∷ []) ≡ 0 = rw f in
        absurd (omega (arith, (((kept_more [] x n kept_none).each 0 (omega arith)).names f).0))

pub first_point : (p : Plan) → (check_of p).number ≡ 0 → 1 ≤ length (records_of p) → is point (get_or (records_of p) 0 blank) ≡ true
first_point p e h = first_of (records_of p) (none_refused p e) h

many_some : (so : Record → Bool) (rs : List Record) → some so rs ≡ true → 1 ≤ how_many so rs
unfolding some how_many
many_some so [] e = clash (sym e)
many_some so (r ∷ rs) e = go (so r) e (many_some so rs)
  where
    go : (b : Bool) → (b || some so rs) ≡ true → (some so rs ≡ true → 1 ≤ how_many so rs) → 1 ≤ one b + how_many so rs
    go true e f = omega arith
    go false e f = omega (arith, f e)

-- An accepted plan with a record has a point.
pub any_point : (rs : List Record) → Accepted rs → 1 ≤ length rs → 1 ≤ points rs
any_point rs w h = go (is point (get_or rs 0 blank)) refl
  where
    go : (b : Bool) → is point (get_or rs 0 blank) ≡ b → 1 ≤ points rs
    go true e = many_some (is point) rs (get_d_some (is point) rs 0 h e)
    go false e = omega (arith, (w.each 0 h).names e)
