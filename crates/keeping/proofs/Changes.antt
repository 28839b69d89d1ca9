-- One point more done: how the counts, the largest and the least over all records change. Assumes nothing.
use mathlib.Core.Path.{◌≡◌, refl, ◌∙◌, sym}
use mathlib.Core.Bool.{Bool, true, false, not, ◌&&◌, ◌||◌}
use mathlib.Core.List.{List, [], ◌∷◌}
use Prim.Native.Nat.{ℕ, ◌+◌, ◌-◌, ◌<◌, ◌≤◌, min, max}
use native.Mathlib.Omega.{arith}
use native.Mathlib.Decide.{ℕ_discrete}
use borrow.Author.Tests.{eq-eqb, ne_eqb, eqb-true}
use lib.Dec.{eqb, ltb}
use lib.ListN.{length, set}
use lib.Seq.{get_or-set_same, get_or-set_other}
use Rattle.points.specs.Sets.{member, with_of}
use Rattle.points.proofs.Laws.{member_with}
use Rattle.std.specs.Prelude.{if◌then◌else◌}
use Rattle.plan.specs.Limits.{most_points, farthest}
use Rattle.plan.specs.APlan.{ordinary, wait, is, one, how_many, link_to, gap_of}
use Rattle.records.specs.declared.Record.{Record}
use Rattle.history.specs.History.{minute_in, runs}
use Rattle.history.proofs.Tests.{clash}
use Rattle.lowhigh.specs.Rules.{shuts, earliest, greatest, least, bound, never}
use Rattle.keeping.specs.Counts.{holds_of, after, awaits, low_of, wait_of, high_of, frees, after_by, bound_by}

-- ---- folds that agree record by record

pub many_sum : (f g h : Record → Bool) → ((r : Record) → one (f r) + one (g r) ≡ one (h r)) → (rs : List Record) → how_many f rs + how_many g rs ≡ how_many h rs
unfolding how_many
many_sum f g h e [] = refl
many_sum f g h e (r ∷ rs) = omega (arith, e r, many_sum f g h e rs)

pub greatest_max : (f g h : Record → ℕ) → ((r : Record) → f r ≡ max (g r) (h r)) → (rs : List Record) → greatest f rs ≡ max (greatest g rs) (greatest h rs)
unfolding greatest
greatest_max f g h e [] = refl
greatest_max f g h e (r ∷ rs) = omega (arith, e r, greatest_max f g h e rs)

-- the least is never past `never`
pub least_never : (f : Record → ℕ) (rs : List Record) → least f rs ≤ never
unfolding least
least_never f [] = omega arith
least_never f (r ∷ rs) = omega (arith, least_never f rs)

clamp : (a x : ℕ) → x ≤ never → min a x ≡ min (min a never) x
clamp a x h = omega arith

four : (a b x y : ℕ) → min (min a b) (min x y) ≡ min (min a x) (min b y)
four a b x y = omega arith

pub least_min : (f g h : Record → ℕ) → ((r : Record) → min (f r) never ≡ min (min (g r) (h r)) never) → (rs : List Record) → least f rs ≡ min (least g rs) (least h rs)
unfolding least
least_min f g h e [] = refl
least_min f g h e (r ∷ rs) =
    let a = rw (e r) at (clamp (f r) (least f rs) (least_never f rs)) in
    let c = clamp (min (g r) (h r)) (least f rs) (least_never f rs) in
    let k : min (min (g r) (h r)) (least f rs) ≡ min (min (g r) (least g rs)) (min (h r) (least h rs)) = rw (least_min f g h e rs) (four (g r) (h r) (least g rs) (least h rs)) in
    a ∙ (sym c ∙ k)

-- ---- one record

-- x and u say that a record's point is z, y and v that it was done
one_less : (o n x y w u v : Bool) → (x ≡ true → y ≡ false) → (u ≡ true → v ≡ false) → (o && w) ≡ false
    → one ((o && (n && not (x || y))) || (w && not (u || v))) + one ((o && (n && x)) || (w && u)) ≡ one ((o && (n && not y)) || (w && not v))
one_less true n x y true u v p q e = clash e
one_less true false x y false u v p q e = refl
one_less true true true true false u v p q e = clash (p refl)
one_less true true true false false u v p q e = refl
one_less true true false true false u v p q e = refl
one_less true true false false false u v p q e = refl
one_less false n x y true true true p q e = clash (q refl)
one_less false n x y true true false p q e = refl
one_less false n x y true false true p q e = refl
one_less false n x y true false false p q e = refl
one_less false n x y false u v p q e = refl

-- the same where the record is of another point
one_less_of : (a o n x y w u v : Bool) → (x ≡ true → y ≡ false) → (u ≡ true → v ≡ false) → (o && w) ≡ false
    → one (a && ((o && (n && not (x || y))) || (w && not (u || v)))) + one (a && ((o && (n && x)) || (w && u))) ≡ one (a && ((o && (n && not y)) || (w && not v)))
one_less_of true o n x y w u v p q e = one_less o n x y w u v p q e
one_less_of false o n x y w u v p q e = refl

-- no record is both ordinary and a wait
one_kind : (r : Record) → (is ordinary r && is wait r) ≡ false
one_kind r = go (is ordinary r) refl
  where
    go : (o : Bool) → is ordinary r ≡ o → (o && is wait r) ≡ false
    go true h = rw (eqb-true r.kind 3 h)
    go false h = refl

-- what a record says of a point that is z, and of another
new_after : (a o : Bool) (v u : ℕ) → (if a && (o && (true || false)) then v else 0) ≡ max (if a && (o && false) then u else 0) (if a && (o && true) then v else 0)
new_after true true v u = omega arith
new_after true false v u = refl
new_after false o v u = refl

old_after : (a o d : Bool) (v u : ℕ) → (if a && (o && (false || d)) then v else 0) ≡ max (if a && (o && d) then v else 0) (if a && (o && false) then u else 0)
old_after true true true v u = omega arith
old_after true true false v u = refl
old_after true false d v u = refl
old_after false o d v u = refl

new_bound : (a o : Bool) (v u : ℕ) → min (if a && (o && (true || false)) then v else never) never ≡ min (min (if a && (o && false) then u else never) (if a && (o && true) then v else never)) never
new_bound true true v u = omega arith
new_bound true false v u = refl
new_bound false o v u = refl

old_bound : (a o d : Bool) (v u : ℕ) → min (if a && (o && (false || d)) then v else never) never ≡ min (min (if a && (o && d) then v else never) (if a && (o && false) then u else never)) never
old_bound true true true v u = omega arith
old_bound true true false v u = refl
old_bound true false d v u = refl
old_bound false o d v u = refl

split_after : (a o d w u : Bool) (v x : ℕ) → (o && w) ≡ false
    → (if a && (o && d) then v else (if a && (w && u) then x else 0)) ≡ max (if a && (o && d) then v else 0) (if a && (w && u) then x else 0)
split_after false o d w u v x e = refl
split_after true true d true u v x e = clash e
split_after true true true false u v x e = omega arith
split_after true true false false u v x e = refl
split_after true false d true true v x e = omega arith
split_after true false d true false v x e = refl
split_after true false d false u v x e = refl

-- ---- the point z is done at t

module _ (rs : List Record) (done : ℕ) (minutes : List ℕ) (t z : ℕ) (small : z < most_points) (new : member done z ≡ false) where
  pub done_more : (p : ℕ) → member (with_of done z) p ≡ (eqb p z || member done p)
  done_more p = member_with done z p small

  was_not : (p : ℕ) → eqb p z ≡ true → member done p ≡ false
  was_not p h = rw (eqb-true p z h) new

  -- the count of each point falls by the records that z sets free
  pub holds_fall : (q : ℕ) → holds_of rs (with_of done z) q + how_many (frees rs z q) rs ≡ holds_of rs done q
  holds_fall q =
      many_sum (shuts rs (with_of done z) q) (frees rs z q) (shuts rs done q)
      (λ r. rw (done_more r.b, done_more (link_to rs r.b).a)
      (one_less_of (eqb r.a q) (is ordinary r) (ltb 0 (gap_of r.first).down) (eqb r.b z) (member done r.b) (is wait r) (eqb (link_to rs r.b).a z)
      (member done (link_to rs r.b).a) (was_not r.b) (was_not (link_to rs r.b).a) (one_kind r)))
      rs

  -- of another point than z the minute stays
  pub minute_same : (p : ℕ) → (p ≡ z → ⊥) → minute_in (set minutes z t) p ≡ minute_in minutes p
  minute_same p n = get_or-set_other minutes z p t 0 n

  module _ (long : length minutes ≡ most_points) where
    pub minute_new : minute_in (set minutes z t) z ≡ t
    minute_new = get_or-set_same minutes z t 0 (omega arith)

    after_more : (q : ℕ) (r : Record) → after (with_of done z) (set minutes z t) q r ≡ max (after done minutes q r) (after_by t z q r)
    after_more q r = go (ℕ_discrete r.b z)
      where
        go : Dec (r.b ≡ z) → after (with_of done z) (set minutes z t) q r ≡ max (after done minutes q r) (after_by t z q r)
        go (yes e) = rw (done_more r.b, e, minute_new, new, eq-eqb z z refl) (new_after (eqb r.a q) (is ordinary r) (t + (gap_of r.first).down - (gap_of r.first).up) (minute_in minutes z + (gap_of r.first).down - (gap_of r.first).up))
        go (no n) = rw (done_more r.b, minute_same r.b n, ne_eqb r.b z n) (old_after (eqb r.a q) (is ordinary r) (member done r.b) (minute_in minutes r.b + (gap_of r.first).down - (gap_of r.first).up) (t + (gap_of r.first).down - (gap_of r.first).up))

    -- the window so far rises to what the records to z give
    pub low_rises : (q : ℕ) → low_of rs (with_of done z) (set minutes z t) q ≡ max (low_of rs done minutes q) (greatest (after_by t z q) rs)
    low_rises q = greatest_max (after (with_of done z) (set minutes z t) q) (after done minutes q) (after_by t z q) (after_more q) rs

    bound_more : (q : ℕ) (r : Record) → min (bound (with_of done z) (set minutes z t) q r) never ≡ min (min (bound done minutes q r) (bound_by t z q r)) never
    bound_more q r = go (ℕ_discrete r.a z)
      where
        go : Dec (r.a ≡ z) → min (bound (with_of done z) (set minutes z t) q r) never ≡ min (min (bound done minutes q r) (bound_by t z q r)) never
        go (yes e) = rw (done_more r.a, e, minute_new, new, eq-eqb z z refl) (new_bound (eqb r.b q) (is ordinary r) (t + farthest + (gap_of r.first).up - (gap_of r.first).down) (minute_in minutes z + farthest + (gap_of r.first).up - (gap_of r.first).down))
        go (no n) = rw (done_more r.a, minute_same r.a n, ne_eqb r.a z n) (old_bound (eqb r.b q) (is ordinary r) (member done r.a) (minute_in minutes r.a + farthest + (gap_of r.first).up - (gap_of r.first).down) (t + farthest + (gap_of r.first).up - (gap_of r.first).down))

    -- and the other end falls to what the records from z give
    pub high_falls : (q : ℕ) → high_of rs (with_of done z) (set minutes z t) q ≡ min (high_of rs done minutes q) (least (bound_by t z q) rs)
    high_falls q = least_min (bound (with_of done z) (set minutes z t) q) (bound done minutes q) (bound_by t z q) (bound_more q) rs

-- Low is by the ordinary records and by the running waits
low_parts : (rs : List Record) (done : ℕ) (minutes : List ℕ) (q : ℕ) (r : Record) → earliest rs done minutes q r ≡ max (after done minutes q r) (awaits rs done minutes q r)
low_parts rs done minutes q r =
    split_after (eqb r.a q) (is ordinary r) (member done r.b) (is wait r) (runs done (link_to rs r.b))
    (minute_in minutes r.b + (gap_of r.first).down - (gap_of r.first).up) (minute_in minutes (link_to rs r.b).a + (gap_of r.first).up) (one_kind r)

pub low_is : (rs : List Record) (done : ℕ) (minutes : List ℕ) (q : ℕ) → greatest (earliest rs done minutes q) rs ≡ max (low_of rs done minutes q) (wait_of rs done minutes q)
low_is rs done minutes q = greatest_max (earliest rs done minutes q) (after done minutes q) (awaits rs done minutes q) (low_parts rs done minutes q) rs
