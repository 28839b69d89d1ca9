-- What a plan that is not refused is, as the test needs it: each record's points are there and its numbers small, a watched
-- point has one link, and the kinds do not fall. Assumes nothing.
use mathlib.Core.Path.{◌≡◌, refl, sym, subst}
use mathlib.Core.Bool.{Bool, true, false, ◌||◌}
use mathlib.Core.List.{List, [], ◌∷◌, ◌++◌, append_assoc}
use Prim.Native.Nat.{ℕ, suc, ◌+◌, ◌<◌, ◌≤◌}
use native.Mathlib.Omega.{arith}
use lib.IntN.{ℤ, pos}
use lib.Signed.{le_z}
use lib.ListN.{length, get_or}
use borrow.Author.Tests.{eqb-true, eq-eqb}
use Rattle.std.specs.Prelude.{if◌then◌else◌}
use Rattle.plan.specs.Limits.{most_points, farthest}
use Rattle.plan.specs.APlan.{point, link, is, ends_at, how_many, some, watched, first_that, link_to, blank, gap_of}
use Rattle.records.specs.declared.Record.{Record}
use Rattle.vee.proofs.Rules.{Valid, no_more, one_more, Sort, a_point_lem, a_link_lem, an_ordinary_lem, a_wait_lem, sort, each, both, clash}

module _ (so : Record → Bool) where
  pub more : (xs ys : List Record) → how_many so (xs ++ ys) ≡ how_many so xs + how_many so ys
  unfolding how_many
  more [] ys = omega arith
  more (x ∷ xs) ys = omega (arith, more xs ys)

  -- the first that is so among the first ones is the first
  pub first_front : (xs ys : List Record) → some so xs ≡ true → (some so (xs ++ ys) ≡ true) × (first_that so (xs ++ ys) ≡ first_that so xs)
  unfolding some first_that
  first_front [] ys e = clash (sym e)
  first_front (x ∷ xs) ys e = go (so x) refl (λ h. first_front xs ys h)
    where
      go : (b : Bool) → so x ≡ b → (some so xs ≡ true → (some so (xs ++ ys) ≡ true) × (first_that so (xs ++ ys) ≡ first_that so xs))
          → (so x || some so (xs ++ ys) ≡ true) × ((if so x then x else first_that so (xs ++ ys)) ≡ (if so x then x else first_that so xs))
      go true h rec = rw h (refl, refl)
      go false h rec = rw h (rec (rw h at e))

  -- the first that is so, where none before it is
  pub first_here : (xs ys : List Record) (r : Record) → some so xs ≡ false → so r ≡ true → first_that so (xs ++ (r ∷ ys)) ≡ r
  unfolding some first_that
  first_here [] ys r e h = rw h refl
  first_here (x ∷ xs) ys r e h = go (so x) refl (λ k. first_here xs ys r k h)
    where
      go : (b : Bool) → so x ≡ b → (some so xs ≡ false → first_that so (xs ++ (r ∷ ys)) ≡ r) → (if so x then x else first_that so (xs ++ (r ∷ ys))) ≡ r
      go true k rec = clash (rw k at e)
      go false k rec = rw k (rec (rw k at e))

  -- where one is so, the first is one of them
  pub there : (xs : List Record) → some so xs ≡ true → (q : ℕ) × (q < length xs) × (get_or xs q blank ≡ first_that so xs) × (so (first_that so xs) ≡ true)
  unfolding some first_that
  there [] e = clash (sym e)
  there (x ∷ xs) e = go (so x) refl (λ h. there xs h)
    where
      go : (b : Bool) → so x ≡ b → (some so xs ≡ true → (q : ℕ) × (q < length xs) × (get_or xs q blank ≡ first_that so xs) × (so (first_that so xs) ≡ true))
          → (q : ℕ) × (q < length (x ∷ xs)) × (get_or (x ∷ xs) q blank ≡ (if so x then x else first_that so xs)) × (so (if so x then x else first_that so xs) ≡ true)
      go true h rec = (0, omega arith, rw h refl, rw h h)
      go false h rec = let r = rec (rw h at e) in (suc r.0, omega (arith, r.1), rw h r.2, rw h r.3)

-- the points are no more than there may be
pub few_points : {pre rs : List Record} → Valid pre rs → how_many (is point) pre ≤ most_points → how_many (is point) (pre ++ rs) ≤ most_points
unfolding how_many
few_points {pre} no_more h = omega (arith, more (is point) pre [], none)
  where
    none : how_many (is point) [] ≡ 0
    none = refl
few_points {pre} (one_more {r = r} {rs = rs} k v) h = subst (λ (l : List Record). how_many (is point) l ≤ most_points) (append_assoc pre (r ∷ []) rs) (few_points v (omega (arith, more (is point) pre (r ∷ []), last (sort pre r k))))
  where
    last : Sort pre r → how_many (is point) pre + how_many (is point) (r ∷ []) ≤ most_points
    last (a_point_lem e b l) = rw e (omega arith)
    last (a_link_lem e _ _ _ _ _ _ _) = rw e (omega arith)
    last (an_ordinary_lem e _ _ _ _) = rw e (omega arith)
    last (a_wait_lem e _ _ _ _ _) = rw e (omega arith)

-- what each record of the whole plan is
pub data Whole (rs : List Record) (r : Record) : Type 0 where
  w_point : r.kind ≡ 1 → r.b ≡ 0 → Whole rs r
  w_link : {x y : ℕ} → r.kind ≡ 2 → r.a < how_many (is point) rs → r.b < how_many (is point) rs → r.first ≡ pos x → r.second ≡ pos y → x ≤ y → y ≤ farthest → link_to rs r.b ≡ r → Whole rs r
  w_ordinary : r.kind ≡ 3 → r.a < how_many (is point) rs → r.b < how_many (is point) rs → (gap_of r.first).up ≤ farthest → (gap_of r.first).down ≤ farthest → Whole rs r
  w_wait : {w : ℕ} → r.kind ≡ 4 → r.a < how_many (is point) rs → r.b < how_many (is point) rs → watched rs r.b ≡ true → r.first ≡ pos w → le_z (pos w) (link_to rs r.b).second ≡ true → Whole rs r

ends_at_lem : (r : Record) → r.kind ≡ 2 → ends_at r.b r ≡ true
ends_at_lem r e = rw (e, eq-eqb r.b r.b refl) refl

pub whole : (rs : List Record) → Valid [] rs → (q : ℕ) → q < length rs → Whole rs (get_or rs q blank)
whole rs v q h =
    let e = each v q h in
    subst (λ (l : List Record). Whole l (get_or rs q blank)) (sym e.2) (go e.0 e.1 (get_or rs q blank) e.3)
  where
    go : (pre post : List Record) (r : Record) → Sort pre r → Whole (pre ++ (r ∷ post)) r
    go pre post r (a_point_lem e b l) = w_point e b
    go pre post r (a_link_lem e a b w x y l f) =
        let m = more (is point) pre (r ∷ post) in
        w_link e (omega arith) (omega arith) x y l f (first_here (ends_at r.b) pre post r w (ends_at_lem r e))
    go pre post r (an_ordinary_lem e a b u d) = let m = more (is point) pre (r ∷ post) in w_ordinary e (omega arith) (omega arith) u d
    go pre post r (a_wait_lem {w} e a b k f l) =
        let m = more (is point) pre (r ∷ post) in
        let ff = first_front (ends_at r.b) pre (r ∷ post) k in
        w_wait e (omega arith) (omega arith) ff.0 f (rw ff.1 l)

-- what is known of a link: its points are there, its bounds are natural numbers, and no other link ends where it does
pub record Linked (rs : List Record) (r : Record) : Type 0 where
  pub x : ℕ
  pub y : ℕ
  pub from : r.a < how_many (is point) rs
  pub to : r.b < how_many (is point) rs
  pub least : r.first ≡ pos x
  pub most : r.second ≡ pos y
  pub some : x ≤ y
  pub short : y ≤ farthest
  pub alone : link_to rs r.b ≡ r

pub linked : {rs : List Record} {r : Record} → r.kind ≡ 2 → Whole rs r → Linked rs r
linked e (w_point k _) = absurd (omega arith)
linked e (w_link {x} {y} k a b f g l m u) = record { x = x; y = y; from = a; to = b; least = f; most = g; some = l; short = m; alone = u }
linked e (w_ordinary k _ _ _ _) = absurd (omega arith)
linked e (w_wait k _ _ _ _ _) = absurd (omega arith)

-- the link that ends at a watched point
pub record TheLink (rs : List Record) (C : ℕ) : Type 0 where
  pub place : ℕ
  pub listed : place < length rs
  pub here : get_or rs place blank ≡ link_to rs C
  pub kind : (link_to rs C).kind ≡ 2
  pub end : (link_to rs C).b ≡ C

pub the_link : (rs : List Record) (C : ℕ) → watched rs C ≡ true → TheLink rs C
the_link rs C w =
    let t = there (ends_at C) rs w in
    let k = both (is link (link_to rs C)) _ t.3 in
    record { place = t.0; listed = t.1; here = t.2; kind = eqb-true _ _ k.0; end = sym (eqb-true C _ k.1) }

pub link_of : (rs : List Record) → Valid [] rs → (C : ℕ) → watched rs C ≡ true → Linked rs (link_to rs C)
link_of rs v C w =
    let t = the_link rs C w in
    subst (λ (r : Record). Linked rs r) t.here (linked (rw t.here t.kind) (whole rs v t.place t.listed))

-- a signed number that is a natural one
pub gap_up : {z : ℤ} {x : ℕ} → z ≡ pos x → (gap_of z).up ≡ x
gap_up e = rw e refl

pub gap_down : {z : ℤ} {x : ℕ} → z ≡ pos x → (gap_of z).down ≡ 0
gap_down e = rw e refl
