-- What the records of a plan that is not refused have passed, as far as the test needs it. Assumes nothing.
use mathlib.Core.Path.{◌≡◌, refl, sym, ◌∙◌}
use mathlib.Core.Bool.{Bool, true, false, ◌&&◌}
use mathlib.Core.List.{List, [], ◌∷◌, ◌++◌, map, append_assoc}
use Prim.Native.Nat.{ℕ, zero, suc, ◌<◌, ◌≤◌}
use native.Mathlib.Omega.{arith}
use lib.Dec.{eqb, ltb, eqb-suc-zero}
use lib.IntN.{ℤ, pos, negsuc, neg_ℤ}
use lib.Signed.{le_z, lt_z}
use lib.ListN.{length, get_or}
use borrow.Author.Tests.{ltb-true, leb-true, eqb-true, not-true}
use Rattle.plan.specs.Limits.{most_points, farthest}
use Rattle.plan.specs.APlan.{point, link, ordinary, wait, unknown, kind_of, is, how_many, watched, link_to, blank, gap_of}
use Rattle.plan.specs.ReplyNumbers.{after, number_of, first_bad, first_bad_with}
use Rattle.plan.specs.Held.{plain}
use Rattle.records.specs.declared.Record.{Record}
use Rattle.rules.proofs.Passed.{Passed, passed}

pub both : (a b : Bool) → a && b ≡ true → (a ≡ true) × (b ≡ true)
both true b e = (refl, e)
both false b e = absurd (let z : ◌≡◌ {A = ℕ} 0 1 = cc in omega arith)

-- each record is kept after those before it
pub data Valid : List Record → List Record → Type 0 where
  no_more : {pre : List Record} → Valid pre []
  one_more : {pre : List Record} {r : Record} {rs : List Record} → Passed (kind_of r.kind) (after pre) r 0 → Valid (pre ++ (r ∷ [])) rs → Valid pre (r ∷ rs)

pub valid : (pre rs : List Record) → (first_bad pre (map plain rs)).number ≡ 0 → Valid pre rs
unfolding first_bad_with
valid pre [] e = no_more
valid pre (r ∷ rs) e = go (number_of (after pre) r 0) refl (λ h. valid (pre ++ (r ∷ [])) rs h)
  where
    go : (n : ℕ) → number_of (after pre) r 0 ≡ n → ((first_bad (pre ++ (r ∷ [])) (map plain rs)).number ≡ 0 → Valid (pre ++ (r ∷ [])) rs) → Valid pre (r ∷ rs)
    go zero h rec = one_more (passed (kind_of r.kind) (after pre) r 0 h) (rec (rw h at e))
    go (suc n) h rec = absurd (let z : suc n ≡ 0 = rw (h, eqb-suc-zero n) at e in omega arith)

-- what a record of each kind has passed, after the records pre
pub data Sort (pre : List Record) (r : Record) : Type 0 where
  a_point_lem : r.kind ≡ 1 → r.b ≡ 0 → how_many (is point) pre < most_points → Sort pre r
  a_link_lem : {x y : ℕ} → r.kind ≡ 2 → r.a < how_many (is point) pre → r.b < how_many (is point) pre → watched pre r.b ≡ false → r.first ≡ pos x → r.second ≡ pos y → x ≤ y → y ≤ farthest → Sort pre r
  an_ordinary_lem : r.kind ≡ 3 → r.a < how_many (is point) pre → r.b < how_many (is point) pre → (gap_of r.first).up ≤ farthest → (gap_of r.first).down ≤ farthest → Sort pre r
  a_wait_lem : {w : ℕ} → r.kind ≡ 4 → r.a < how_many (is point) pre → r.b < how_many (is point) pre → watched pre r.b ≡ true → r.first ≡ pos w → le_z (pos w) (link_to pre r.b).second ≡ true → Sort pre r

pub clash : {A : Type 0} → true ≡ false → A
clash e = absurd (let z : ◌≡◌ {A = ℕ} 0 1 = cc in omega arith)

-- a number from a to b, as ℤ has it
from_to_lem : (m : ℕ) (x y : ℤ) → le_z (pos 1) x ≡ true → lt_z x y ≡ true → le_z y (pos m) ≡ true → (a : ℕ) × (b : ℕ) × (x ≡ pos a) × (y ≡ pos b) × (a ≤ b) × (b ≤ m)
from_to_lem m (pos a) (pos b) e f g = (a, b, refl, refl, omega (arith, ltb-true a b f), leb-true b m g)
from_to_lem m (pos a) (negsuc b) e f g = clash (sym f)
from_to_lem m (negsuc a) y e f g = clash (sym e)

within : (m : ℕ) (x : ℤ) → le_z (neg_ℤ (pos m)) x ≡ true → le_z x (pos m) ≡ true → ((gap_of x).up ≤ m) × ((gap_of x).down ≤ m)
within m (pos a) e f = (leb-true a m f, omega arith)
within zero (negsuc a) e f = clash (sym e)
within (suc m) (negsuc a) e f = (omega arith, omega (arith, leb-true a m e))

nought : (x : ℤ) → le_z (pos 1) x ≡ true → (w : ℕ) × (x ≡ pos w)
nought (pos a) e = (a, refl)
nought (negsuc a) e = clash (sym e)

pub sort : (pre : List Record) (r : Record) → Passed (kind_of r.kind) (after pre) r 0 → Sort pre r
sort pre r k = go1 (eqb r.kind 1) refl
  where
    go4 : (b : Bool) → eqb r.kind 4 ≡ b → eqb r.kind 1 ≡ false → eqb r.kind 2 ≡ false → eqb r.kind 3 ≡ false → Sort pre r
    go4 true e f1 f2 f3 =
        let k' : Passed wait (after pre) r 0 = rw (f1, f2, f3, e) at k in
        let n = both (ltb r.a (how_many (is point) pre)) _ k'.names in
        let j = both (watched pre r.b) _ k'.joins in
        let b = both (le_z (pos 1) r.first) _ k'.bounds in
        let w = nought r.first b.0 in
        a_wait_lem (eqb-true r.kind 4 e) (ltb-true _ _ n.0) (ltb-true _ _ n.1) j.0 w.1 (rw w.1 at b.1)
    go4 false e f1 f2 f3 = let k' : Passed unknown (after pre) r 0 = rw (f1, f2, f3, e) at k in clash (sym k'.known)

    go3 : (b : Bool) → eqb r.kind 3 ≡ b → eqb r.kind 1 ≡ false → eqb r.kind 2 ≡ false → Sort pre r
    go3 true e f1 f2 =
        let k' : Passed ordinary (after pre) r 0 = rw (f1, f2, e) at k in
        let n = both (ltb r.a (how_many (is point) pre)) _ k'.names in
        let b = both (le_z (neg_ℤ (pos farthest)) r.first) _ k'.bounds in
        let w = within farthest r.first b.0 b.1 in
        an_ordinary_lem (eqb-true r.kind 3 e) (ltb-true _ _ n.0) (ltb-true _ _ n.1) w.0 w.1
    go3 false e f1 f2 = go4 (eqb r.kind 4) refl f1 f2 e

    go2 : (b : Bool) → eqb r.kind 2 ≡ b → eqb r.kind 1 ≡ false → Sort pre r
    go2 true e f1 =
        let k' : Passed link (after pre) r 0 = rw (f1, e) at k in
        let n = both (ltb r.a (how_many (is point) pre)) _ k'.names in
        let b = both (le_z (pos 1) r.first) _ k'.bounds in
        let b' = both (lt_z r.first r.second) _ b.1 in
        let w = from_to_lem farthest r.first r.second b.0 b'.0 b'.1 in
        a_link_lem (eqb-true r.kind 2 e) (ltb-true _ _ n.0) (ltb-true _ _ n.1) (not-true (watched pre r.b) k'.joins) w.2 w.3 w.4 w.5
    go2 false e f1 = go3 (eqb r.kind 3) refl f1 e

    go1 : (b : Bool) → eqb r.kind 1 ≡ b → Sort pre r
    go1 true e =
        let k' : Passed point (after pre) r 0 = rw e at k in
        let z = both (eqb r.b 0) _ k'.nought in
        a_point_lem (eqb-true r.kind 1 e) (eqb-true r.b 0 z.0) (ltb-true (how_many (is point) pre) most_points k'.room)
    go1 false e = go2 (eqb r.kind 2) refl e

-- each record, with those before it
pub each : {pre rs : List Record} → Valid pre rs → (q : ℕ) → q < length rs → (pre' : List Record) × (post : List Record) × (pre ++ rs ≡ pre' ++ (get_or rs q blank ∷ post)) × Sort pre' (get_or rs q blank)
each no_more q h = absurd (omega arith)
each {pre} (one_more {r = r} {rs = rs} k v) zero h = (pre, rs, refl, sort pre r k)
each {pre} (one_more {r = r} {rs = rs} k v) (suc q) h =
    let e = each v q (omega arith) in
    (e.0, e.1, (sym (append_assoc pre (r ∷ []) rs) ∙ e.2), e.3)
