-- The loop that finds a plan's links: it begins with none, each record keeps what it has found, and at the end it has
-- those of the plan. And which links are running. Assumes nothing.
use mathlib.Core.Path.{◌≡◌, refl, sym, ◌∙◌}
use mathlib.Core.Bool.{Bool, true, false, not, ◌&&◌, ◌||◌, true≢false}
use mathlib.Core.List.{List, [], ◌∷◌, ◌++◌}
use Prim.Native.Nat.{ℕ, zero, suc, ◌+◌, ◌-◌, ◌%◌, ◌^◌, ◌≤◌, ◌<◌}
use native.Mathlib.Omega.{arith}
use native.Mathlib.Decide.{ℕ_discrete}
use lib.Dec.{eqb, ltb, lit<}
use lib.ListN.{length, take, get_or, set, length-set, replicate, length-replicate, get_or-replicate}
use lib.Seq.{set-get_or, get_or-set_same, get_or-set_other}
use borrow.Author.Tests.{eqb-true, eq-eqb, ne_eqb, lt-ltb, ltb-true, ltb-false}
use Rattle.points.specs.Sets.{member, with_of}
use Rattle.points.proofs.Laws.{member_empty, member_with, with_fits, with_past}
use Rattle.std.specs.Prelude.{if◌then◌else◌}
use Rattle.plan.specs.Limits.{most_points}
use Rattle.plan.specs.APlan.{point, link, byte_of, is, one, how_many, some, ends_at, watched, first_that, link_to, blank}
use Rattle.plan.specs.ReplyNumbers.{check_of}
use Rattle.plan.specs.declared.Plan.{Plan}
use Rattle.plan.specs.declared.Refusal.{Refusal}
use Rattle.records.specs.declared.Record.{Record}
use Rattle.links.specs.Inside.{end_in, no_end, end_of, watched_after, end_after, Known, LinksOf}
use Rattle.links.specs.declared.End.{End}
use Rattle.links.specs.declared.Links.{Links}
use Rattle.plan.proofs.Accepted.{Accepted, first_found}
use Rattle.history.specs.History.{runs}
use Rattle.history.proofs.Tests.{both}
use Rattle.plan.proofs.Records.{many_snoc, some_snoc, first_not_lem, first_old, first_so, one_more, all_of}

abbrev pub links_as : ℕ → ℕ → List End → Links
links_as n s ends = record { points = n; watched = s; ends = ends }

pub links_none : LinksOf [] (links_as 0 0 (replicate most_points no_end))
unfolding some first_that how_many
links_none =
    record {
      points = refl;
      long = length-replicate most_points no_end;
      fits = lit< tt;
      watches = λ p h. member_empty p;
      ends = λ p h. get_or-replicate most_points p no_end no_end h;
    }

-- the watched points
module _ (s : ℕ) (r : Record) (p : ℕ) (h : p < most_points) (old : Bool) (e : member s p ≡ old) where
  watched_by : (l b : Bool) → is link r ≡ l → ltb r.b most_points ≡ b → member (if l then with_of s r.b else s) p ≡ (l && eqb p r.b || old)
  watched_by false b k f = e
  watched_by true true k f = rw (member_with s r.b p (ltb-true r.b most_points f), e)
  watched_by true false k f =
      let past = ltb-false r.b most_points f in
      rw (with_past s r.b past, ne_eqb p r.b (λ q. omega arith)) e

fits_by : (l : Bool) (s q : ℕ) → s < 2 ^ 32 → (if l then with_of s q else s) < 2 ^ 32
fits_by true s q f = with_fits s q f
fits_by false s q f = f

-- the link to each
module _ (rs : List Record) (n s : ℕ) (ends : List End) (w : LinksOf rs (links_as n s ends)) (r : Record) (p : ℕ) (h : p < most_points) where
  abbrev place : ℕ
  place = r.b % most_points

  abbrev fresh : Bool
  fresh = is link r && (ltb r.b most_points && not (member s r.b))

  abbrev ends_with : Bool → List End
  ends_with b = set ends place (if b then end_in r else get_or ends place no_end)

  -- what a fresh link is
  parts : (a b c : Bool) → (a && (b && not c)) ≡ true → (a ≡ true) × (b ≡ true) × (c ≡ false)
  parts true true false e = (refl, refl, refl)
  parts true true true e = absurd (true≢false (sym e))
  parts true false c e = absurd (true≢false (sym e))
  parts false b c e = absurd (true≢false (sym e))

  -- what ends at p and is not fresh has an older link
  older : (a b c : Bool) → (a && (b && not c)) ≡ false → a ≡ true → b ≡ true → c ≡ true
  older true true true e f g = refl
  older true true false e f g = absurd (true≢false e)
  older true false c e f g = absurd (true≢false (sym g))
  older false b c e f g = absurd (true≢false (sym f))

  put : fresh ≡ true → Dec (p ≡ r.b) → get_or (ends_with true) p no_end ≡ end_of (rs ++ (r ∷ [])) p
  put e (yes q) =
      let k = parts (is link r) (ltb r.b most_points) (member s r.b) e in
      let below = ltb-true r.b most_points k.1 in
      let pl : place ≡ r.b = omega arith in
      rw (
        pl,
        q,
        get_or-set_same ends r.b (end_in r) no_end (omega (arith, w.long)),
        first_so (ends_at r.b) rs r (sym (w.watches r.b below) ∙ k.2) (rw (k.0, eq-eqb r.b r.b refl)),
      )
  put e (no q) =
      let k = parts (is link r) (ltb r.b most_points) (member s r.b) e in
      let below = ltb-true r.b most_points k.1 in
      let pl : place ≡ r.b = omega arith in
      rw (pl, get_or-set_other ends r.b p (end_in r) no_end q, first_not_lem (ends_at p) rs r (rw (k.0, ne_eqb p r.b q))) (w.ends p h)

  kept : fresh ≡ false → (l m : Bool) → is link r ≡ l → eqb p r.b ≡ m → link_to (rs ++ (r ∷ [])) p ≡ link_to rs p
  kept e true true f g =
      let q = eqb-true p r.b g in
      let there = older (is link r) (ltb r.b most_points) (member s r.b) e f (lt-ltb r.b most_points (omega arith)) in
      first_old (ends_at p) rs r (sym (w.watches p h) ∙ rw q there)
  kept e true false f g = first_not_lem (ends_at p) rs r (rw (f, g))
  kept e false m f g = first_not_lem (ends_at p) rs r (rw f)

  by_fresh : (b : Bool) → fresh ≡ b → get_or (ends_with b) p no_end ≡ end_of (rs ++ (r ∷ [])) p
  by_fresh true e = put e (ℕ_discrete p r.b)
  by_fresh false e = rw (set-get_or ends place no_end, kept e (is link r) (eqb p r.b) refl refl) (w.ends p h)

module _ (rs : List Record) (n s : ℕ) (ends : List End) (w : LinksOf rs (links_as n s ends)) (r : Record) where
  pub links_more : LinksOf (rs ++ (r ∷ [])) (links_as (n + one (is point r)) (watched_after r s) (set ends (r.b % most_points) (end_after r s (get_or ends (r.b % most_points) no_end))))
  links_more =
      record {
        points = rw (many_snoc (is point) rs r, w.points);
        long = simp length-set w.long;
        fits = fits_by (is link r) s r.b w.fits;
        watches = λ p h. rw (some_snoc (ends_at p) rs r) (watched_by s r p h (watched rs p) (w.watches p h) (is link r) (ltb r.b most_points) refl refl);
        ends = λ p h. by_fresh rs n s ends w r p h (fresh rs n s ends w r p h) refl;
      }

-- a turn of the loop: the record at place i of rs
pub links_turn : (rs : List Record) (i : ℕ) (n s : ℕ) (ends : List End) → LinksOf (take i rs) (links_as n s ends) → i < length rs → (r : Record) → get_or rs i blank ≡ r
    → LinksOf (take (i + 1) rs) (links_as (n + one (is point r)) (watched_after r s) (set ends (r.b % most_points) (end_after r s (get_or ends (r.b % most_points) no_end))))
links_turn rs i n s ends w h r e = rw (one_more rs i h, e) (links_more (take i rs) n s ends w r)

module _ (rs : List Record) (i n s : ℕ) (ends : List End) (w : LinksOf (take i rs) (links_as n s ends)) (h : i < length rs) (r : Record) (e : get_or rs i blank ≡ r) where
  -- a record that is no link
  pub other_turn : (r.kind ≡ byte_of link → ⊥) → LinksOf (take (i + 1) rs) (links_as (n + one (is point r)) s ends)
  other_turn k = rw (ne_eqb r.kind (byte_of link) k, set-get_or ends (r.b % most_points) no_end) at (links_turn rs i n s ends w h r e)

  -- a link
  pub link_turn : r.kind ≡ byte_of link
      → LinksOf (take (i + 1) rs) (links_as n (watched_after r s) (set ends (r.b % most_points) (end_after r s (get_or ends (r.b % most_points) no_end))))
  link_turn k =
      let p : is point r ≡ false = ne_eqb r.kind (byte_of point) (λ q. omega (arith, k)) in
      let z : n + 0 ≡ n = omega arith in
      rw (p, z) at (links_turn rs i n s ends w h r e)

-- ---- that a plan is accepted

pub known : (p : Plan) (found : Refusal) → found ≡ check_of p → found.number ≡ 0 → Known p true
known p found e z = record { accepted = λ t. rw e at z }

-- ---- behind the first record that is neither a point nor a link

pub past_link : (rs : List Record) (i : ℕ) (r : Record) → get_or rs i blank ≡ r → ltb (byte_of link) r.kind ≡ true → byte_of link < (get_or rs i blank).kind
past_link rs i r e t = rw e (ltb-true (byte_of link) r.kind t)

module _ (rs : List Record) (ok : Accepted rs) (i : ℕ) (past : byte_of link < (get_or rs i blank).kind) (n s : ℕ) (ends : List End) where
  -- kinds never fall, so each record from there on changes nothing
  onward : (m k : ℕ) → k + m ≡ length rs → i ≤ k → LinksOf (take k rs) (links_as n s ends) → LinksOf rs (links_as n s ends)
  onward zero k e h w = rw (all_of rs k (omega arith)) at w
  onward (suc m) k e h w =
      let l : k < length rs = omega arith in
      let o = ok.sorted i k h l in
      let p : is point (get_or rs k blank) ≡ false = ne_eqb (get_or rs k blank).kind (byte_of point) (λ q. omega (arith, o, past)) in
      let z : n + 0 ≡ n = omega arith in
      onward m (k + 1) (omega arith) (omega arith) (rw (p, z) at (other_turn rs k n s ends w l _ refl (λ q. omega (arith, o, past))))

  pub links_stop : i ≤ length rs → LinksOf (take i rs) (links_as n s ends) → LinksOf rs (links_as n s ends)
  links_stop h w = onward (length rs - i) i (omega arith) (omega arith) w

-- ---- the link that ends at a watched point

pub runs_to_lem : (rs : List Record) (done p : ℕ) → watched rs p ≡ true
    → runs done (link_to rs p) ≡ (member done (link_to rs p).a && not (member done p))
runs_to_lem rs done p h =
    let l = link_to rs p in
    let e = both (is link l) (eqb p l.b) (first_found (ends_at p) rs h).0 in
    let q = eqb-true p l.b e.1 in
    rw (e.0, ← q)
