-- What the test keeps of the records so far, and that it answers the rules as the records themselves do. Assumes nothing.
use mathlib.Core.Path.{◌≡◌, refl, sym, ap, ◌∙◌}
use mathlib.Core.Bool.{Bool, true, false, not, ◌&&◌, ◌||◌}
use mathlib.Core.List.{List, [], ◌∷◌, ◌++◌}
use Prim.Native.Nat.{ℕ, zero, suc, ◌+◌, ◌%◌, ◌≤◌, ◌<◌}
use native.Mathlib.Omega.{arith}
use lib.Dec.{eqb, ltb}
use lib.ListN.{length, get_or, set, length-set, replicate, length-replicate, get_or-replicate}
use borrow.Author.Tests.{ltb-true, eqb-true, eq-eqb, ne_eqb, not-true}
use native.Mathlib.Decide.{ℕ_discrete}
use lib.Seq.{set-get_or, get_or-set_same, get_or-set_other}
use Rattle.points.specs.Sets.{member, with_of}
use Rattle.points.proofs.Laws.{member_with, member_empty}
use Rattle.std.specs.Prelude.{if◌then◌else◌}
use Rattle.records.specs.Limits.{most_points}
use Rattle.records.specs.Records.{Kind, point, link, ordinary, wait, unknown, kind_of, byte_of, is, one, how_many, some, points, watched, ends_at, from_to, leads, first_that, link_to}
use Rattle.rules.specs.OneRecord.{Before, after, is_known, last_kind, in_order, room_for, zeros, named, apart, single, joined, bounded, number_for, number_for_with, number_of}
use Rattle.rules.specs.Inside.{told, no_ending, fresh, with_record, ending_after, seconds_after}
use Rattle.rules.proofs.Passed.{Passed, passed}
use Rattle.records.proofs.Records.{many_snoc, some_snoc, first_not_lem, first_so}
use Rattle.records.specs.declared.Record.{Record}
use Rattle.rules.specs.declared.Seen.{Seen}
use Rattle.rules.specs.declared.Ending.{Ending}

-- the last kind, with a record more
pub last_snoc : (k : ℕ) (rs : List Record) (r : Record) → last_kind k (rs ++ (r ∷ [])) ≡ r.kind
unfolding last_kind
last_snoc k [] r = refl
last_snoc k (x ∷ rs) r = last_snoc x.kind rs r

-- of the link among rs that ends at p, what the table of links keeps
abbrev pub ending_of : List Record → ℕ → Ending
ending_of rs p = record { from = (link_to rs p).a; longest = (link_to rs p).second }

pub record Shows (rs : List Record) (s : Seen) (ends : List Ending) (seconds : List ℕ) : Type 0 where
  pub last : s.kind ≡ last_kind 0 rs
  pub many_points : s.points ≡ points rs
  pub many_links : s.links ≡ how_many (is link) rs
  pub many_ordinary : s.ordinary ≡ how_many (is ordinary) rs
  pub many_waits : s.waits ≡ how_many (is wait) rs
  pub few : points rs ≤ most_points
  pub end : (p : ℕ) → p < most_points → member s.watched p ≡ watched rs p
  pub long : length ends ≡ most_points
  pub links : (p : ℕ) → p < most_points → get_or ends p no_ending ≡ ending_of rs p
  pub long_seconds : length seconds ≡ most_points
  pub leads : (p q : ℕ) → p < most_points → q < most_points → member (get_or seconds p 0) q ≡ leads rs p q

-- with no records nothing is kept
pub shows_none : Shows [] fresh (replicate most_points no_ending) (replicate most_points 0)
unfolding last_kind how_many some first_that
shows_none =
    record {
      last = refl;
      many_points = refl;
      many_links = refl;
      many_ordinary = refl;
      many_waits = refl;
      few = omega arith;
      end = λ p h. member_empty p;
      long = length-replicate most_points no_ending;
      links = λ p h. get_or-replicate most_points p no_ending no_ending h;
      long_seconds = length-replicate {A = ℕ} most_points 0;
      leads = λ p q h k. rw (get_or-replicate {A = ℕ} most_points p 0 0 h) (member_empty q);
    }

-- the rules after 8
abbrev past_8 : Kind → Before → Record → ℕ
past_8 k b r = if not (apart k r) then 9 else (if not (single b k r) then 15 else (if not (joined b k r) then 10 else (if not (bounded b k r) then 11 else 0)))

-- two chains of rules that agree up to 8 agree where they agree after it
upto_8 : (o m z n : Bool) (x y : ℕ) → (n ≡ true → x ≡ y)
    → (if not o then 5 else (if not m then 6 else (if not z then 7 else (if not n then 8 else x)))) ≡ (if not o then 5 else (if not m then 6 else (if not z then 7 else (if not n then 8 else y))))
upto_8 o m z true x y h = rw (h refl)
upto_8 o m z false x y h = refl

pub both : (a b : Bool) → (a && b) ≡ true → (a ≡ true) × (b ≡ true)
both true b e = (refl, e)
both false b e = absurd (let z : ◌≡◌ {A = ℕ} 0 1 = cc in omega arith)

-- named points are below 32
module _ (rs : List Record) (few : points rs ≤ most_points) (r : Record) (n : (ltb r.a (points rs) && ltb r.b (points rs)) ≡ true) where
  first_below : r.a < most_points
  first_below = omega (arith, ltb-true r.a (points rs) (both (ltb r.a (points rs)) (ltb r.b (points rs)) n).0)

  second_below : r.b < most_points
  second_below = omega (arith, ltb-true r.b (points rs) (both (ltb r.a (points rs)) (ltb r.b (points rs)) n).1)

module _ (rs : List Record) (s : Seen) (ends : List Ending) (seconds : List ℕ) (w : Shows rs s ends seconds) (r : Record) (z : ℕ) where
  abbrev kept : Before
  kept = told s (get_or ends (r.b % most_points) no_ending) (get_or seconds (r.a % most_points) 0)

  module _ (n : (ltb r.a (points rs) && ltb r.b (points rs)) ≡ true) where
    a_below : r.a < most_points
    a_below = first_below rs w.few r n

    b_below : r.b < most_points
    b_below = second_below rs w.few r n

    same_link : past_8 link kept r ≡ past_8 link (after rs) r
    same_link = rw (w.end r.b b_below)

    same_ordinary : past_8 ordinary kept r ≡ past_8 ordinary (after rs) r
    same_ordinary =
        let e : r.a % most_points ≡ r.a = omega (arith, a_below) in
        rw (e, w.leads r.a r.b a_below b_below)

    same_wait : past_8 wait kept r ≡ past_8 wait (after rs) r
    same_wait =
        let e : r.b % most_points ≡ r.b = omega (arith, b_below) in
        rw (e, w.links r.b b_below, w.end r.b b_below, w.end r.a a_below)

  same : (k : Kind) → number_for k kept r z ≡ number_for k (after rs) r z
  unfolding number_for_with
  same unknown = refl
  same point = rw (w.last, w.many_points)
  same ordinary =
      rw (w.last, w.many_points, w.many_ordinary)
      (upto_8 (in_order (after rs) r) (room_for (after rs) ordinary) (zeros ordinary r z) (named (after rs) ordinary r) (past_8 ordinary kept r) (past_8 ordinary (after rs) r) same_ordinary)
  same link =
      rw (w.last, w.many_points, w.many_links)
      (upto_8 (in_order (after rs) r) (room_for (after rs) link) (zeros link r z) (named (after rs) link r) (past_8 link kept r) (past_8 link (after rs) r) same_link)
  same wait =
      rw (w.last, w.many_points, w.many_waits)
      (upto_8 (in_order (after rs) r) (room_for (after rs) wait) (zeros wait r z) (named (after rs) wait r) (past_8 wait kept r) (past_8 wait (after rs) r) same_wait)

  -- what is kept gives a record the number that the records before it give it
  pub same_number : number_of (told s (get_or ends (r.b % most_points) no_ending) (get_or seconds (r.a % most_points) 0)) r z ≡ number_of (after rs) r z
  same_number = same (kind_of r.kind)

-- a kind that is none of the four
is_unknown : (k : ℕ) → (k ≡ 1 → ⊥) → (k ≡ 2 → ⊥) → (k ≡ 3 → ⊥) → (k ≡ 4 → ⊥) → kind_of k ≡ unknown
is_unknown k a b c d = rw (ne_eqb k 1 a, ne_eqb k 2 b, ne_eqb k 3 c, ne_eqb k 4 d)

-- the kind of a record is the byte of that kind
pub kind_byte : (x : ℕ) (k : Kind) → is_known k ≡ true → kind_of x ≡ k → x ≡ byte_of k
kind_byte zero k h e = absurd (let z : ◌≡◌ {A = ℕ} 0 1 = cc in omega arith)
kind_byte (suc zero) k h e = ap byte_of e
kind_byte (suc (suc zero)) k h e = ap byte_of e
kind_byte (suc (suc (suc zero))) k h e = ap byte_of e
kind_byte (suc (suc (suc (suc zero)))) k h e = ap byte_of e
kind_byte (suc (suc (suc (suc (suc x))))) k h e =
    let u = is_unknown (suc (suc (suc (suc (suc x))))) (λ f. omega arith) (λ f. omega arith) (λ f. omega arith) (λ f. omega arith) in
    absurd (let z : ◌≡◌ {A = ℕ} 0 1 = cc in omega arith)

-- ---- what is kept with a record more that is not refused

-- a set that a point may have been put to, as membership in it
put_more : (so : Bool) (s p q : ℕ) (old : Bool) → (so ≡ true → q < most_points) → member s p ≡ old
    → member (if so then with_of s q else s) p ≡ (so && eqb p q || old)
put_more true s p q old h e = rw (member_with s q p (h refl), e)
put_more false s p q old h e = e

module _ (rs : List Record) (s : Seen) (ends : List Ending) (seconds : List ℕ) (w : Shows rs s ends seconds) (r : Record) (z : ℕ) (ok : number_of (after rs) r z ≡ 0) where
  abbrev place : ℕ
  place = r.b % most_points

  abbrev ends_more : List Ending
  ends_more = set ends place (ending_after r (get_or ends place no_ending))

  of : (k : Kind) → is k r ≡ true → kind_of (byte_of k) ≡ k → Passed k (after rs) r z
  of k e f =
      let g : kind_of r.kind ≡ k = ap kind_of (eqb-true r.kind (byte_of k) e) ∙ f in
      rw g at (passed (kind_of r.kind) (after rs) r z ok)

  few_more : (b : Bool) → is point r ≡ b → points rs + one b ≤ most_points
  few_more true e = omega (arith, ltb-true (points rs) most_points (of point e refl).room)
  few_more false e = omega (arith, w.few)

  to_below : is link r ≡ true → r.b < most_points
  to_below e = second_below rs w.few r (of link e refl).names

  not_yet : is link r ≡ true → watched rs r.b ≡ false
  not_yet e = not-true (watched rs r.b) (of link e refl).joins

  -- the table, by whether r is a link, and whether it is the link that ends at p
  links_same : is link r ≡ false → (p : ℕ) → p < most_points → get_or ends_more p no_ending ≡ ending_of (rs ++ (r ∷ [])) p
  links_same e p h = rw (e, set-get_or ends place no_ending, first_not_lem (ends_at p) rs r (rw e)) (w.links p h)

  links_put : is link r ≡ true → (p : ℕ) → p < most_points → Dec (p ≡ r.b) → get_or ends_more p no_ending ≡ ending_of (rs ++ (r ∷ [])) p
  links_put e p h (yes q) =
      let below = to_below e in
      let pl : place ≡ r.b = omega arith in
      rw (
        e,
        q,
        pl,
        get_or-set_same ends r.b (record { from = r.a; longest = r.second }) no_ending (omega (arith, w.long)),
        first_so (ends_at r.b) rs r (not_yet e) (rw (e, eq-eqb r.b r.b refl)),
      )
  links_put e p h (no q) =
      let below = to_below e in
      let pl : place ≡ r.b = omega arith in
      rw (
        e,
        pl,
        get_or-set_other ends r.b p (record { from = r.a; longest = r.second }) no_ending q,
        first_not_lem (ends_at p) rs r (rw (e, ne_eqb p r.b q)),
      )
      (w.links p h)

  links_more : (b : Bool) → is link r ≡ b → (p : ℕ) → p < most_points → get_or ends_more p no_ending ≡ ending_of (rs ++ (r ∷ [])) p
  links_more true e p h = links_put e p h (ℕ_discrete p r.b)
  links_more false e p h = links_same e p h

  -- the sets of seconds, by whether r is an ordinary record, and whether it leads from p
  abbrev first_place : ℕ
  first_place = r.a % most_points

  abbrev seconds_more : List ℕ
  seconds_more = set seconds first_place (seconds_after r (get_or seconds first_place 0))

  names_ordinary : is ordinary r ≡ true → (ltb r.a (points rs) && ltb r.b (points rs)) ≡ true
  names_ordinary e = (of ordinary e refl).names

  leads_same : is ordinary r ≡ false → (p q : ℕ) → p < most_points → q < most_points → member (get_or seconds_more p 0) q ≡ leads (rs ++ (r ∷ [])) p q
  leads_same e p q h k = rw (e, set-get_or seconds first_place 0, some_snoc (from_to p q) rs r, e) (w.leads p q h k)

  leads_put : is ordinary r ≡ true → (p q : ℕ) → p < most_points → q < most_points → Dec (p ≡ r.a) → member (get_or seconds_more p 0) q ≡ leads (rs ++ (r ∷ [])) p q
  leads_put e p q h k (yes f) =
      let below = first_below rs w.few r (names_ordinary e) in
      let pl : first_place ≡ r.a = omega arith in
      rw (
        e,
        f,
        pl,
        get_or-set_same seconds r.a (with_of (get_or seconds r.a 0) r.b) 0 (omega (arith, w.long_seconds)),
        some_snoc (from_to r.a q) rs r,
        e,
        eq-eqb r.a r.a refl,
        member_with (get_or seconds r.a 0) r.b q (second_below rs w.few r (names_ordinary e)),
        w.leads r.a q below k,
      )
  leads_put e p q h k (no f) =
      let below = first_below rs w.few r (names_ordinary e) in
      let pl : first_place ≡ r.a = omega arith in
      rw (
        e,
        pl,
        get_or-set_other seconds r.a p (with_of (get_or seconds r.a 0) r.b) 0 f,
        some_snoc (from_to p q) rs r,
        e,
        ne_eqb p r.a f,
      )
      (w.leads p q h k)

  leads_more : (b : Bool) → is ordinary r ≡ b → (p q : ℕ) → p < most_points → q < most_points → member (get_or seconds_more p 0) q ≡ leads (rs ++ (r ∷ [])) p q
  leads_more true e p q h k = leads_put e p q h k (ℕ_discrete p r.a)
  leads_more false e p q h k = leads_same e p q h k

  pub shows_more : Shows (rs ++ (r ∷ [])) (with_record s r) ends_more seconds_more
  shows_more =
      record {
        last = sym (last_snoc 0 rs r);
        many_points = rw (many_snoc (is point) rs r, w.many_points);
        many_links = rw (many_snoc (is link) rs r, w.many_links);
        many_ordinary = rw (many_snoc (is ordinary) rs r, w.many_ordinary);
        many_waits = rw (many_snoc (is wait) rs r, w.many_waits);
        few = rw (many_snoc (is point) rs r) (few_more (is point r) refl);
        end = λ p h. rw (some_snoc (ends_at p) rs r) (put_more (is link r) s.watched p r.b (watched rs p) to_below (w.end p h));
        long = simp length-set w.long;
        links = links_more (is link r) refl;
        long_seconds = simp length-set w.long_seconds;
        leads = leads_more (is ordinary r) refl;
      }
