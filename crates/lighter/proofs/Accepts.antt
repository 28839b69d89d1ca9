-- An accepted plan without one of its ordinary records is accepted: what the records after it ask of those before them has not
-- changed, but that there are fewer of them. Assumes nothing.
use mathlib.Core.Path.{◌≡◌, refl, sym, ap, subst, ◌∙◌}
use mathlib.Core.Bool.{true, false}
use mathlib.Core.List.{List, [], ◌∷◌, ◌++◌, map, append_assoc, append-nil}
use Prim.Native.Nat.{ℕ, zero, suc, ◌≤◌, ◌<◌}
use native.Mathlib.Omega.{arith}
use lib.Dec.{ltb}
use lib.ListN.{length, length-append}
use lib.Seq.{take-append_seam, get_or_at}
use borrow.Author.Tests.{ltb-true, lt-ltb, leb-true, le-leb, ne_eqb, le-ltb, not-true}
use Rattle.plan.specs.Limits.{most_records, farthest}
use Rattle.plan.specs.APlan.{Kind, point, link, ordinary, wait, unknown, kind_of, is, one, how_many, points, ends_at, from_to, blank, gap_of, records_of, plan_of}
use Rattle.plan.specs.ReplyNumbers.{Before, after, last_kind, named, joined, bounded, number_for, number_for_with, first_bad, first_bad_with, check_of, check_with}
use Rattle.plan.specs.Held.{plain}
use Rattle.records.specs.declared.Record.{Record}
use Rattle.plan.specs.declared.Plan.{Plan}
use Rattle.rules.specs.OneRecord.{single as one_single}
use Rattle.rules.proofs.Passed.{Passed}
use Rattle.vee.proofs.Rules.{Valid, no_more, one_more}
use Rattle.vee.proofs.Plans.{Whole, w_point, w_link, w_ordinary, w_wait, whole}
use Rattle.lighter.proofs.Skips.{many_skip, some_skip, first_skip, none_skip, last_skip}

-- ---- one record

-- a record that keeps each rule is not refused
pub kept : {k : Kind} {b : Before} {r : Record} → Passed k b r 0 → number_for k b r 0 ≡ 0
unfolding number_for_with
kept p = rw (p.known, p.order, p.room, p.nought, p.names, p.differ, p.single, p.joins, p.bounds) refl

-- what is asked has not changed, but that there are fewer
record Fewer (b c : Before) : Type 0 where
  many : (k : Kind) → c.many k ≤ b.many k
  points : c.many point ≡ b.many point
  end : (p : ℕ) → c.end p ≡ b.end p
  leads : (p q : ℕ) → b.leads p q ≡ false → c.leads p q ≡ false
  from : (p : ℕ) → c.from p ≡ b.from p
  longest : (p : ℕ) → c.longest p ≡ b.longest p

fewer_room : (a b m : ℕ) → b ≤ a → ltb a m ≡ true → ltb b m ≡ true
fewer_room a b m h e = lt-ltb b m (omega (arith, ltb-true a m e))

passes_fewer : (k : Kind) {b c : Before} {r : Record} → Fewer b c → c.last ≤ b.last → Passed k b r 0 → Passed k c r 0
passes_fewer k {b} {c} {r} f l p =
    record {
      known = p.known;
      order = le-leb c.last r.kind (omega (arith, leb-true b.last r.kind p.order));
      room = fewer_room (b.many k) (c.many k) _ (f.many k) p.room;
      nought = p.nought;
      names = names k p.names;
      differ = p.differ;
      single = single k p.single;
      joins = joins k p.joins;
      bounds = bounds k p.bounds;
    }
  where
    names : (k : Kind) → named b k r ≡ true → named c k r ≡ true
    names point e = rw f.points e
    names link e = rw f.points e
    names ordinary e = rw f.points e
    names wait e = rw f.points e
    names unknown e = e

    single : (k : Kind) → one_single b k r ≡ true → one_single c k r ≡ true
    single point e = e
    single link e = e
    single ordinary e = rw (f.leads r.a r.b (not-true (b.leads r.a r.b) e)) refl
    single wait e = e
    single unknown e = e

    joins : (k : Kind) → joined b k r ≡ true → joined c k r ≡ true
    joins point e = e
    joins link e = rw (f.end r.b) e
    joins ordinary e = e
    joins wait e = rw (f.end r.b, f.end r.a, f.from r.b) e
    joins unknown e = e

    bounds : (k : Kind) → bounded b k r ≡ true → bounded c k r ≡ true
    bounds point e = e
    bounds link e = e
    bounds ordinary e = e
    bounds wait e = rw (f.longest r.b) e
    bounds unknown e = e

-- ---- all records

module _ (ks : List Record) (r : Record) (kind : r.kind ≡ 3) (order : last_kind 0 ks ≤ r.kind) where
  fewer : (xs : List Record) → Fewer (after (ks ++ (r ∷ xs))) (after (ks ++ xs))
  fewer xs = record {
    many = λ k. omega (arith, many_skip (is k) r xs ks);
    points = let z : one (is point r) ≡ 0 = rw kind refl in omega (arith, z, many_skip (is point) r xs ks);
    end = λ p. sym (some_skip (ends_at p) r xs (rw kind refl) ks);
    leads = λ p q e. none_skip (from_to p q) r xs ks e;
    from = λ p. ap (λ (x : Record). x.a) (sym (first_skip (ends_at p) r xs (rw kind refl) ks));
    longest = λ p. ap (λ (x : Record). x.second) (sym (first_skip (ends_at p) r xs (rw kind refl) ks));
  }

  -- the records after it
  valid_rest : (xs : List Record) {pre more : List Record} → pre ≡ ks ++ (r ∷ xs) → Valid pre more → Valid (ks ++ xs) more
  valid_rest xs e no_more = no_more
  valid_rest xs {pre} e (one_more {r = x} {rs = rs} p v) =
      one_more (passes_fewer (kind_of x.kind) (fewer xs) (last_skip ks r xs order) (rw e at p))
      (subst (λ (l : List Record). Valid l rs) (sym (append_assoc ks xs (x ∷ []))) (valid_rest (xs ++ (x ∷ [])) (ap (λ (l : List Record). l ++ (x ∷ [])) e ∙ append_assoc ks (r ∷ xs) (x ∷ [])) v))

-- a valid list, cut
cut : (pre xs : List Record) {ys : List Record} → Valid pre (xs ++ ys) → Valid (pre ++ xs) ys
cut pre [] {ys} v = subst (λ (l : List Record). Valid l ys) (sym (append-nil pre)) v
cut pre (x ∷ xs) {ys} (one_more p v) = subst (λ (l : List Record). Valid l ys) (append_assoc pre (x ∷ []) xs) (cut (pre ++ (x ∷ [])) xs v)

-- and put together with another end
mend : (pre xs ys : List Record) {zs : List Record} → Valid pre (xs ++ ys) → Valid (pre ++ xs) zs → Valid pre (xs ++ zs)
mend pre [] ys {zs} v w = subst (λ (l : List Record). Valid l zs) (append-nil pre) w
mend pre (x ∷ xs) ys {zs} (one_more p v) w = one_more p (mend (pre ++ (x ∷ [])) xs ys v (subst (λ (l : List Record). Valid l zs) (sym (append_assoc pre (x ∷ []) xs)) w))

-- a valid list is not refused
valid_kept : {pre rs : List Record} → Valid pre rs → (first_bad pre (map plain rs)).number ≡ 0
unfolding first_bad_with
valid_kept no_more = refl
valid_kept {pre} (one_more {r = r} {rs = rs} p v) = rw (kept p) (valid_kept v)

module _ (ks : List Record) (r : Record) (more : List Record) (kind : r.kind ≡ 3) where
  first_of : {pre rs : List Record} {x : Record} → Valid pre (x ∷ rs) → (last_kind 0 pre ≤ x.kind) × Valid (pre ++ (x ∷ [])) rs
  first_of {pre} {rs} {x} (one_more p v) = (leb-true (last_kind 0 pre) x.kind p.order, v)

  -- The records without an ordinary one are valid where all are.
  pub valid_without : Valid [] (ks ++ (r ∷ more)) → Valid [] (ks ++ more)
  valid_without v =
      let o = first_of (cut [] ks v) in
      mend [] ks (r ∷ more) v (subst (λ (l : List Record). Valid l more) (append-nil ks) (valid_rest ks r kind o.0 [] refl o.1))

-- ---- plans

-- the records of the plan that some records make
pub records_of_lem : (rs : List Record) → records_of (plan_of rs) ≡ rs
records_of_lem rs = take-append_seam rs _

-- what an accepted ordinary record keeps
pub record Keeps (rs : List Record) (r : Record) : Type 0 where
  pub from : r.a < points rs
  pub to : r.b < points rs
  pub up : (gap_of r.first).up ≤ farthest
  pub down : (gap_of r.first).down ≤ farthest

pub keeps_it_lem : {rs : List Record} {r : Record} → r.kind ≡ 3 → Whole rs r → Keeps rs r
keeps_it_lem e (w_point k _) = absurd (omega arith)
keeps_it_lem e (w_link k _ _ _ _ _ _ _) = absurd (omega arith)
keeps_it_lem e (w_ordinary k a b u d) = record { from = a; to = b; up = u; down = d }
keeps_it_lem e (w_wait k _ _ _ _ _) = absurd (omega arith)

-- a plan of valid records, not too many, is accepted
pub plan_accepted : (rs : List Record) → 0 < length rs → length rs ≤ most_records → Valid [] rs → (check_of (plan_of rs)).number ≡ 0
unfolding check_with
plan_accepted rs some few v =
    rw (ne_eqb (length rs) 0 (λ e. omega arith), le-ltb most_records (length rs) few, records_of_lem rs) (valid_kept v)

-- an accepted plan has a record
pub count_some : (p : Plan) → (check_of p).number ≡ 0 → 0 < p.count
unfolding check_with
count_some p e = go p.count refl
  where
    go : (n : ℕ) → p.count ≡ n → 0 < p.count
    go zero h = absurd (let z : ◌≡◌ {A = ℕ} 1 0 = rw h at e in omega arith)
    go (suc n) h = omega arith

-- ---- a point is left

points_there : (l : List Record) → 0 < points l → 0 < length l
unfolding how_many
points_there [] h = h
points_there (x ∷ l) h = omega arith

module _ (ks : List Record) (r : Record) (more : List Record) (kind : r.kind ≡ 3) (v : Valid [] (ks ++ (r ∷ more))) where
  -- the points are the same without it
  pub same_points : points (ks ++ (r ∷ more)) ≡ points (ks ++ more)
  same_points = let z : one (is point r) ≡ 0 = rw kind refl in omega (arith, z, many_skip (is point) r more ks)

  pub its_rules : Keeps (ks ++ (r ∷ more)) r
  its_rules =
      let l : length ks < length (ks ++ (r ∷ more)) = omega (arith, length-append ks (r ∷ more)) in
      let e = get_or_at ks r more blank (length ks) refl in
      subst (λ (x : Record). Keeps (ks ++ (r ∷ more)) x) e (keeps_it_lem (rw e kind) (whole (ks ++ (r ∷ more)) v (length ks) l))

  pub some_left : 0 < length (ks ++ more)
  some_left = points_there (ks ++ more) (omega (arith, its_rules.from, same_points))
