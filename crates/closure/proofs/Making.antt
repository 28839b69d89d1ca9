-- The records of the made plan: its points are the plan's, and its ordinary records are the edges of the distances. Assumes
-- nothing.
use mathlib.Core.Path.{◌≡◌, refl, sym, ap, subst, ◌∙◌}
use mathlib.Core.Logic.{◌⊎◌, inl, inr}
use mathlib.Core.Bool.{Bool, true, false, not, ◌&&◌, ◌||◌}
use mathlib.Core.List.{List, [], ◌∷◌, ◌++◌}
use Prim.Native.Nat.{ℕ, zero, suc, ◌-◌, ◌<◌, ◌≤◌}
use native.Mathlib.Omega.{arith}
use native.Mathlib.Decide.{ℕ_discrete}
use lib.Dec.{eqb, ltb}
use lib.IntN.{sub_ℕ}
use lib.ListN.{length, get_or}
use lib.Seq.{length-take-le, take_at}
use borrow.Author.Tests.{eqb-true, eqb-false, ltb-true, ltb-false, lt-ltb, ne_eqb, not-true}
use Rattle.plan.specs.APlan.{Kind, point, link, ordinary, is, some, how_many, points, blank, gap_of}
use Rattle.plan.specs.Haul.{an_ordinary}
use Rattle.plan.proofs.Accepted.{get_d_some}
use Rattle.records.specs.declared.Record.{Record}
use Rattle.network.specs.Projection.{Edge, there, back}
use Rattle.network.specs.Projection.Edge.{ordinary as by_record, wait as by_wait}
use Rattle.tables.specs.Tables.{Table, bias, none}
use Rattle.vee.specs.PlanTest.{Has, OrdinaryIn, LinkIn, WaitIn, net_of}
use Rattle.vee.proofs.Rules.{Valid, both, clash}
use Rattle.vee.proofs.Plans.{Whole, w_point, w_link, w_ordinary, w_wait, whole, more}
use Rattle.vee.proofs.Orders.{Up, up_none, up_more, ups, past_points}
use Rattle.vee.proofs.Yes.{Every, also}
use Rattle.vee.proofs.Yes.Every.{none as no_more}
use Rattle.closure.specs.Closing.{is_step, has_steps, record_of, row_of, records_by, points_in}
use Rattle.closure.proofs.Gathering.{gathered_every, gathered_few, has_rest, has_either, no_has, to_gathered, of_gathered}
use Rattle.closure.proofs.Networks.{Made}

-- ---- the points

abbrev pub IsPoint : Record → Type 0
IsPoint r = r.kind ≡ 1

abbrev pub IsOrdinary : Record → Type 0
IsOrdinary r = r.kind ≡ 3

-- a plan's points are its first records
leading : {k : ℕ} {rs : List Record} → Up k rs → ((i : ℕ) → i < length rs → 1 ≤ (get_or rs i blank).kind) → Every IsPoint (points_in rs) × (points rs ≤ length rs)
unfolding how_many
leading up_none h = (no_more, omega arith)
leading (up_more {r = r} {rs = rs} l u) h = elim (ℕ_discrete r.kind 1) [
  | yes e ↦
      let i = leading u (λ i l. h (suc i) (omega arith)) in
      let z : points (r ∷ rs) ≡ suc (points rs) = rw e (omega arith) in
      rw z (also e i.0, omega (arith, i.1))
  | no e ↦
      let z : points (r ∷ rs) ≡ 0 = rw (ne_eqb r.kind 1 e) (omega (arith, past_points (omega (arith, h 0 (omega arith))) u)) in
      rw z (no_more, omega arith)
]

module _ (rs : List Record) (v : Valid [] rs) where
  known : (i : ℕ) → i < length rs → 1 ≤ (get_or rs i blank).kind
  known i h = go (whole rs v i h)
    where
      go : Whole rs (get_or rs i blank) → 1 ≤ (get_or rs i blank).kind
      go (w_point k _) = omega arith
      go (w_link k _ _ _ _ _ _ _) = omega arith
      go (w_ordinary k _ _ _ _) = omega arith
      go (w_wait k _ _ _ _ _) = omega arith

  pub are_points_lem : Every IsPoint (points_in rs)
  are_points_lem = (leading (ups v) known).0

  pub points_listed : points rs ≤ length rs
  points_listed = (leading (ups v) known).1

  pub many_points : length (points_in rs) ≡ points rs
  many_points = length-take-le (points rs) rs points_listed

-- records of one kind, counted by another or by their own
module _ {P : Record → Type 0} (so : Record → Bool) where
  pub count_none : {xs : List Record} → ((r : Record) → P r → so r ≡ false) → Every P xs → how_many so xs ≡ 0
  unfolding how_many
  count_none h no_more = refl
  count_none h (also {x} p e) = rw (h x p) (omega (arith, count_none h e))

  pub count_all : {xs : List Record} → ((r : Record) → P r → so r ≡ true) → Every P xs → how_many so xs ≡ length xs
  unfolding how_many
  count_all h no_more = refl
  count_all h (also {x} p e) = rw (h x p) (omega (arith, count_all h e))

  pub some_none : {xs : List Record} → ((r : Record) → P r → so r ≡ false) → Every P xs → some so xs ≡ false
  unfolding some
  some_none h no_more = refl
  some_none h (also {x} p e) = rw (h x p) (some_none h e)

at_every : {P : Record → Type 0} {xs : List Record} → Every P xs → (i : ℕ) → i < length xs → P (get_or xs i blank)
at_every no_more i h = absurd (omega arith)
at_every (also p e) zero h = p
at_every (also p e) (suc i) h = at_every e i (omega arith)

-- ---- one pair

pub gap_sub : (v : ℕ) → ((gap_of (sub_ℕ v bias)).up ≡ v - bias) × ((gap_of (sub_ℕ v bias)).down ≡ bias - v)
gap_sub v = go (ltb v bias) refl
  where
    go : (b : Bool) → ltb v bias ≡ b → ((gap_of (sub_ℕ v bias)).up ≡ v - bias) × ((gap_of (sub_ℕ v bias)).down ≡ bias - v)
    go true e = let h = ltb-true v bias e in rw e (omega arith, omega arith)
    go false e = let h = ltb-false v bias e in rw e (omega arith, omega arith)

module _ (X Y v : ℕ) where
  -- the test of a pair
  abbrev pub pairs : Bool
  pairs = not (eqb X Y) && ltb v none

  pub pairs_so : (X ≡ Y → ⊥) → v < none → pairs ≡ true
  pairs_so x h = rw (ne_eqb X Y x, lt-ltb v none h) refl

  pub pairs_of : pairs ≡ true → (X ≡ Y → ⊥) × (v < none)
  pairs_of e = let a = both (not (eqb X Y)) _ e in (eqb-false X Y (not-true (eqb X Y) a.0), ltb-true v none a.1)

  record_every : Every IsOrdinary (record_of X Y v)
  record_every = go pairs refl
    where
      go : (b : Bool) → pairs ≡ b → Every IsOrdinary (record_of X Y v)
      go true e = rw e (also refl no_more)
      go false e = rw e no_more

  pub record_few : length (record_of X Y v) ≤ 1
  record_few = go pairs refl
    where
      go : (b : Bool) → pairs ≡ b → length (record_of X Y v) ≤ 1
      go true e = rw e (omega arith)
      go false e = rw e (omega arith)

  record_there : (X ≡ Y → ⊥) → v < none → Has (record_of X Y v) ordinary (an_ordinary X (sub_ℕ v bias) Y)
  record_there x h = rw (pairs_so x h) (record { place = 0; listed = omega arith; here = refl; kind = refl })

  of_record : {k : Kind} {r : Record} → Has (record_of X Y v) k r → (X ≡ Y → ⊥) × (v < none) × (r ≡ an_ordinary X (sub_ℕ v bias) Y)
  of_record {k} {r} h = go pairs refl
    where
      go : (b : Bool) → pairs ≡ b → (X ≡ Y → ⊥) × (v < none) × (r ≡ an_ordinary X (sub_ℕ v bias) Y)
      go true e =
          let g : Has (an_ordinary X (sub_ℕ v bias) Y ∷ []) k r = rw e at h in
          let z : g.place ≡ 0 = omega (arith, g.listed) in
          ((pairs_of e).0, (pairs_of e).1, sym g.here ∙ ap (λ (i : ℕ). get_or (an_ordinary X (sub_ℕ v bias) Y ∷ []) i blank) z)
      go false e = absurd (no_has {k = k} {r = r} (rw e at h))

-- ---- the whole

module _ (n : ℕ) (f : Table) where
  pub are_ordinary : Every IsOrdinary (records_by n f)
  are_ordinary = gathered_every 0 n (row_of n f) (λ X. gathered_every 0 n (λ Y. record_of X Y (f X Y)) (λ Y. record_every X Y (f X Y)))

  pub row_few : (X : ℕ) → length (row_of n f X) ≤ n
  row_few X = omega (arith, gathered_few 0 n 1 (λ Y. record_of X Y (f X Y)) (λ Y. record_few X Y (f X Y)))

-- the points pts, then the records of the distances
module _ (pts : List Record) (are : Every IsPoint pts) (n : ℕ) (f : Table) where
  pub points_kept : points (pts ++ records_by n f) ≡ length pts
  points_kept =
      omega (
        arith,
        more (is point) pts (records_by n f),
        count_all (is point) (λ r e. rw e refl) are,
        count_none (is point) (λ r e. rw e refl) (are_ordinary n f),
      )

  some_append : (so : Record → Bool) (xs ys : List Record) → some so xs ≡ false → some so ys ≡ false → some so (xs ++ ys) ≡ false
  unfolding some
  some_append so [] ys e h = h
  some_append so (x ∷ xs) ys e h = go (so x) refl (λ k. some_append so xs ys k h)
    where
      go : (b : Bool) → so x ≡ b → (some so xs ≡ false → some so (xs ++ ys) ≡ false) → (so x || some so (xs ++ ys)) ≡ false
      go true k rec = clash (rw k at e)
      go false k rec = rw k (rec (rw k at e))

  pub no_steps_lem : has_steps (pts ++ records_by n f) ≡ false
  no_steps_lem = some_append is_step pts (records_by n f) (some_none is_step (λ r e. rw e refl) are) (some_none is_step (λ r e. rw e refl) (are_ordinary n f))

  pub points_again : points_in (pts ++ records_by n f) ≡ pts
  points_again = rw points_kept (take_at pts (records_by n f) (length pts) refl)

  -- its ordinary records are the edges of the distances
  pub to_made : (X Y u d : ℕ) → OrdinaryIn (pts ++ records_by n f) X u d Y → Made n f X Y u d
  to_made X Y u d o = go (has_either pts (records_by n f) o.has)
    where
      go : Has pts ordinary o.what ⊎ Has (records_by n f) ordinary o.what → Made n f X Y u d
      go (inl h) =
          let p : o.what.kind ≡ 1 = subst IsPoint h.here (at_every are h.place h.listed) in
          absurd (omega (arith, p, eqb-true o.what.kind 3 h.kind))
      go (inr h) =
          let a = of_gathered 0 n (row_of n f) h in
          let b = of_gathered 0 n (λ y. record_of a.0 y (f a.0 y)) a.3 in
          let r = of_record a.0 b.0 (f a.0 b.0) b.3 in
          let x : a.0 ≡ X = sym (ap (λ (r : Record). r.a) r.2) ∙ o.from in
          let y : b.0 ≡ Y = sym (ap (λ (r : Record). r.b) r.2) ∙ o.to in
          let g = gap_sub (f a.0 b.0) in
          let u' : f a.0 b.0 - bias ≡ u = sym g.0 ∙ sym (ap (λ (r : Record). (gap_of r.first).up) r.2) ∙ o.up in
          let d' : bias - f a.0 b.0 ≡ d = sym g.1 ∙ sym (ap (λ (r : Record). (gap_of r.first).down) r.2) ∙ o.down in
          let m : Made n f a.0 b.0 u d = record { from = omega (arith, a.2); to = omega (arith, b.2); apart = r.0; joined = r.1; up = sym u'; down = sym d' } in
          subst (λ (q : ℕ). Made n f q Y u d) x (subst (λ (q : ℕ). Made n f a.0 q u d) y m)

  pub from_made : (X Y u d : ℕ) → Made n f X Y u d → OrdinaryIn (pts ++ records_by n f) X u d Y
  from_made X Y u d m =
      let g = gap_sub (f X Y) in
      record {
        what = an_ordinary X (sub_ℕ (f X Y) bias) Y;
        has = has_rest pts (records_by n f) (to_gathered 0 n (row_of n f) X (omega arith) (omega (arith, m.from)) (to_gathered 0 n (λ y. record_of X y (f X y)) Y (omega arith) (omega (arith, m.to)) (record_there X Y (f X Y) m.apart m.joined)));
        from = refl;
        to = refl;
        up = g.0 ∙ sym m.up;
        down = g.1 ∙ sym m.down;
      }

-- ---- a plan without links and waits

pub or_true : (b : Bool) → (b || true) ≡ true
or_true true = refl
or_true false = refl

module _ (rs : List Record) (no : has_steps rs ≡ false) where
  no_step_lem : {k : Kind} {r : Record} → Has rs k r → is_step r ≡ true → ⊥
  no_step_lem h e = clash (sym (get_d_some is_step rs h.place h.listed (rw h.here e)) ∙ no)

  pub no_link : {A x y C : ℕ} → LinkIn rs A x y C → ⊥
  no_link l = no_step_lem l.has (rw l.has.kind refl)

  pub no_wait : {B C w : ℕ} → WaitIn rs B C w → ⊥
  no_wait w = no_step_lem w.has (rw w.has.kind (or_true (is link w.what)))

  -- its edges are its ordinary records, whatever the durations
  pub to_ordinary : (ω : ℕ → ℕ) (X Y u d : ℕ) → Edge (net_of rs) ω X Y u d → OrdinaryIn rs X u d Y
  to_ordinary ω X Y u d (by_record o) = o
  to_ordinary ω X Y u d (there l) = absurd (no_link l)
  to_ordinary ω X Y u d (back l) = absurd (no_link l)
  to_ordinary ω X Y u d (by_wait l w) = absurd (no_link l)

  pub from_ordinary : (ω : ℕ → ℕ) (X Y u d : ℕ) → OrdinaryIn rs X u d Y → Edge (net_of rs) ω X Y u d
  from_ordinary ω X Y u d o = by_record o
