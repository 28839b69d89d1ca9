-- The pass over the records: what one record says of its points is what the rules say of any point, so that the tables
-- hold what the records so far say of each. Start, turn and end of the loop. Assumes nothing.
use mathlib.Core.Path.{◌≡◌, refl, sym, ap, ◌∙◌}
use mathlib.Core.Bool.{Bool, true, false, not, ◌&&◌, ◌||◌}
use mathlib.Core.List.{List, [], ◌∷◌, ◌++◌}
use Prim.Native.Nat.{ℕ, ◌+◌, ◌%◌, ◌^◌, ◌≤◌, ◌<◌, min, max}
use native.Mathlib.Omega.{arith}
use native.Mathlib.Decide.{ℕ_discrete}
use borrow.Author.Tests.{eqb-true, eq-eqb, ne_eqb}
use lib.Dec.{eqb, ltb}
use lib.ListN.{length, take, get_or, set, replicate, length-set, length-take, length-replicate, get_or-replicate}
use lib.Seq.{get_or-set_same, get_or-set_other}
use Rattle.points.specs.Sets.{member, with_of}
use Rattle.points.proofs.Laws.{member_empty, member_small, member_with, with_fits}
use Rattle.std.specs.Prelude.{if◌then◌else◌}
use Rattle.plan.specs.Limits.{most_points}
use Rattle.plan.specs.APlan.{ordinary, wait, is, some, watched, link_to, gap_of, blank}
use Rattle.records.specs.declared.Record.{Record}
use Rattle.history.specs.History.{minute_in}
use Rattle.lowhigh.specs.Rules.{shuts, place_from, number_at, earliest, greatest, bound, least, never}
use Rattle.links.specs.Inside.{no_end, end_of, LinksOf}
use Rattle.lowhigh.specs.Inside.{says_of, held, TablesOf}
use Rattle.plan.proofs.Records.{some_snoc, one_more}
use Rattle.links.proofs.Linking.{runs_to_lem}
use Rattle.lowhigh.proofs.Firsts.{place_snoc, no_place}
use Rattle.links.specs.declared.End.{End}
use Rattle.links.specs.declared.Links.{Links}
use Rattle.lowhigh.specs.declared.Said.{Said}

-- ---- what is asked of a record: its points have places, and a wait's second point is watched

abbrev pub timed : Record → Bool
timed r = is ordinary r || is wait r

pub record Fine (rs : List Record) (r : Record) : Type 0 where
  pub first : timed r ≡ true → r.a < most_points
  pub second : timed r ≡ true → r.b < most_points
  pub ends : is wait r ≡ true → watched rs r.b ≡ true

-- ordinary, a wait, or neither
pub by_kind : (P : Type 0) (r : Record) → (is ordinary r ≡ true → is wait r ≡ false → P) → (is ordinary r ≡ false → is wait r ≡ true → P)
    → (is ordinary r ≡ false → is wait r ≡ false → P) → P
by_kind P r f g h = go (is ordinary r) (is wait r) refl refl
  where
    go : (o w : Bool) → is ordinary r ≡ o → is wait r ≡ w → P
    go true w p q = f p (rw (eqb-true r.kind 3 p))
    go false true p q = g p q
    go false false p q = h p q

-- ---- lists with one record more

pub greatest_snoc : (f : Record → ℕ) (rs : List Record) (r : Record) → greatest f (rs ++ (r ∷ [])) ≡ max (greatest f rs) (f r)
unfolding greatest
greatest_snoc f [] r = omega arith
greatest_snoc f (x ∷ rs) r = omega (arith, greatest_snoc f rs r)

pub least_snoc : (f : Record → ℕ) (rs : List Record) (r : Record) → least f (rs ++ (r ∷ [])) ≡ min (least f rs) (f r)
unfolding least
least_snoc f [] r = omega arith
least_snoc f (x ∷ rs) r = omega (arith, least_snoc f rs r)

pub least_le : (f : Record → ℕ) (rs : List Record) → least f rs ≤ never
unfolding least
least_le f [] = omega arith
least_le f (x ∷ rs) = omega (arith, least_le f rs)

-- ---- one place of a table

pub put_low : (lows : List ℕ) (p q v : ℕ) → p < length lows → get_or (set lows p (max (get_or lows p 0) v)) q 0 ≡ max (get_or lows q 0) (if eqb p q then v else 0)
put_low lows p q v h = go (ℕ_discrete q p)
  where
    go : Dec (q ≡ p) → get_or (set lows p (max (get_or lows p 0) v)) q 0 ≡ max (get_or lows q 0) (if eqb p q then v else 0)
    go (yes e) = rw (e, eq-eqb p p refl, get_or-set_same lows p (max (get_or lows p 0) v) 0 h)
    go (no n) = rw (get_or-set_other lows p q (max (get_or lows p 0) v) 0 n, ne_eqb p q (λ e. n (sym e))) (omega arith)

pub put_high : (highs : List ℕ) (p q v : ℕ) → p < length highs → get_or highs q 0 ≤ never
    → get_or (set highs p (min (get_or highs p 0) v)) q 0 ≡ min (get_or highs q 0) (if eqb p q then v else never)
put_high highs p q v h l = go (ℕ_discrete q p)
  where
    go : Dec (q ≡ p) → get_or (set highs p (min (get_or highs p 0) v)) q 0 ≡ min (get_or highs q 0) (if eqb p q then v else never)
    go (yes e) = rw (e, eq-eqb p p refl, get_or-set_same highs p (min (get_or highs p 0) v) 0 h)
    go (no n) = rw (get_or-set_other highs p q (min (get_or highs p 0) v) 0 n, ne_eqb p q (λ e. n (sym e))) (omega arith)

put_shut : (so : Bool) (s p q : ℕ) → (so ≡ true → p < most_points) → member (if so then with_of s p else s) q ≡ (eqb p q && so || member s q)
put_shut so s p q h = go so h (ℕ_discrete q p)
  where
    go : (so : Bool) → (so ≡ true → p < most_points) → Dec (q ≡ p) → member (if so then with_of s p else s) q ≡ (eqb p q && so || member s q)
    go true h (yes e) = rw (member_with s p q (h refl), e, eq-eqb p p refl)
    go true h (no n) = rw (member_with s p q (h refl), ne_eqb q p n, ne_eqb p q (λ e. n (sym e)))
    go false h (yes e) = rw (e, eq-eqb p p refl)
    go false h (no n) = rw (ne_eqb p q (λ e. n (sym e)))

put_held : (t : List ℕ) (p q v : ℕ) (c : Bool) → p < length t
    → get_or (set t p (if c then v else get_or t p 0)) q 0 ≡ (if eqb p q && c then v else get_or t q 0)
put_held t p q v c h = go (ℕ_discrete q p)
  where
    go : Dec (q ≡ p) → get_or (set t p (if c then v else get_or t p 0)) q 0 ≡ (if eqb p q && c then v else get_or t q 0)
    go (yes e) = rw (e, eq-eqb p p refl, get_or-set_same t p (if c then v else get_or t p 0) 0 h)
    go (no n) = rw (get_or-set_other t p q (if c then v else get_or t p 0) 0 n, ne_eqb p q (λ e. n (sym e)))

-- the first record that keeps a point shut: an earlier one, or else the one that is heard
first_held : (e so earlier : Bool) (v old : ℕ) → (earlier ≡ false → old ≡ 0)
    → (if e && (so && not earlier) then v else old) ≡ (if earlier then old else (if e && so then v else 0))
first_held true true true v old f = refl
first_held true true false v old f = refl
first_held true false true v old f = refl
first_held true false false v old f = f refl
first_held false so true v old f = refl
first_held false so false v old f = f refl

-- ---- what a record says of its points is what the rules say of any

module _ (rs : List Record) (done : ℕ) (minutes : List ℕ) (fits : done < 2 ^ 32) (ends : List End) (here : (p : ℕ) → p < most_points → get_or ends p no_end ≡ end_of rs p) (r : Record) (fine : Fine rs r) where
  abbrev p : ℕ
  p = r.a % most_points

  abbrev q : ℕ
  q = r.b % most_points

  abbrev from : ℕ
  from = (get_or ends q no_end).from

  abbrev said : Said
  said = says_of r done (get_or minutes p 0) (get_or minutes q 0) from (get_or minutes (from % most_points) 0)

  module _ (t : timed r ≡ true) where
    first_place : p ≡ r.a
    first_place = omega (arith, fine.first t)

    second_place : q ≡ r.b
    second_place = omega (arith, fine.second t)

    link_here : from ≡ (link_to rs r.b).a
    link_here = ap (λ (n : ℕ). (get_or ends n no_end).from) second_place ∙ ap (λ (e : End). e.from) (here r.b (fine.second t))

  ordinary_timed : is ordinary r ≡ true → timed r ≡ true
  ordinary_timed e = rw e

  wait_timed : is ordinary r ≡ false → is wait r ≡ true → timed r ≡ true
  wait_timed e f = rw (e, f)

  -- shuts
  pub shuts_said : (v : ℕ) → shuts rs done v r ≡ (eqb r.a v && said.shuts)
  unfolding says_of
  shuts_said v =
      by_kind (shuts rs done v r ≡ (eqb r.a v && said.shuts)) r
      (λ o w. rw (o, w) (plain (eqb r.a v) (ltb 0 (gap_of r.first).down && not (member done r.b))))
      (λ o w. rw (o, w, link_here (wait_timed o w)))
      (λ o w. rw (o, w))
    where
      plain : (e x : Bool) → (e && (x || false)) ≡ (e && x)
      plain e true = refl
      plain e false = refl

  -- Low
  low_ordinary : (e d : Bool) (x y : ℕ) → (if e && d then x else (if e && false then y else 0)) ≡ (if e then (if d then x else 0) else 0)
  low_ordinary true true x y = refl
  low_ordinary true false x y = refl
  low_ordinary false d x y = refl

  low_wait : (e d n : Bool) (x y z : ℕ) → (d ≡ true → x ≡ y)
      → (if e && false then z else (if e && (d && n) then x else 0)) ≡ (if e then (if d && n then y else 0) else 0)
  low_wait true true true x y z h = h refl
  low_wait true true false x y z h = refl
  low_wait true false n x y z h = refl
  low_wait false d n x y z h = refl

  low_silent : (e : Bool) (x y : ℕ) → (if e && false then x else (if e && false then y else 0)) ≡ 0
  low_silent true x y = refl
  low_silent false x y = refl

  either_zero : (e : Bool) → ◌≡◌ {A = ℕ} (if e then 0 else 0) 0
  either_zero true = refl
  either_zero false = refl

  pub earliest_said : (v : ℕ) → earliest rs done minutes v r ≡ (if eqb p v then said.low else 0)
  unfolding says_of
  earliest_said v =
      by_kind (earliest rs done minutes v r ≡ (if eqb p v then said.low else 0)) r
      (λ o w. rw (o, w, first_place (ordinary_timed o), second_place (ordinary_timed o)) (low_ordinary (eqb r.a v) (member done r.b) _ _))
      (λ o w. let t = wait_timed o w in
      rw (o, w, first_place t, link_here t, runs_to_lem rs done r.b (fine.ends w))
      (low_wait (eqb r.a v) (member done (link_to rs r.b).a) (not (member done r.b)) _ _ _ (started (link_to rs r.b).a)))
      (λ o w. rw (o, w) (low_silent (eqb r.a v) _ _ ∙ sym (either_zero (eqb p v))))
    where
      started : (f : ℕ) → member done f ≡ true → minute_in minutes f + (gap_of r.first).up ≡ get_or minutes (f % most_points) 0 + (gap_of r.first).up
      started f d = let e : f % most_points ≡ f = omega (arith, member_small done f fits d) in rw e

  -- High
  high_ordinary : (e d : Bool) (x : ℕ) → (if e && d then x else never) ≡ (if e then (if d then x else never) else never)
  high_ordinary true d x = refl
  high_ordinary false d x = refl

  high_silent : (e f : Bool) (x : ℕ) → (if e && false then x else never) ≡ (if f then never else never)
  high_silent true true x = refl
  high_silent true false x = refl
  high_silent false true x = refl
  high_silent false false x = refl

  pub bound_said : (v : ℕ) → bound done minutes v r ≡ (if eqb q v then said.high else never)
  unfolding says_of
  bound_said v =
      by_kind (bound done minutes v r ≡ (if eqb q v then said.high else never)) r
      (λ o w. rw (o, first_place (ordinary_timed o), second_place (ordinary_timed o)) (high_ordinary (eqb r.b v) (member done r.a) _))
      (λ o w. rw (o, w) (high_silent (eqb r.b v) (eqb q v) _))
      (λ o w. rw (o, w) (high_silent (eqb r.b v) (eqb q v) _))

  shuts_place : said.shuts ≡ true → r.a < most_points
  unfolding says_of
  shuts_place h =
      by_kind (r.a < most_points) r
      (λ o w. fine.first (ordinary_timed o))
      (λ o w. fine.first (wait_timed o w))
      (λ o w. let k : ◌≡◌ {A = Bool} false true = rw (o, w) at h in absurd (let z : ◌≡◌ {A = ℕ} 0 1 = cc in omega arith))

  -- with r the tables hold what one record more says
  module _ (xs : List Record) (shut : ℕ) (holders lows highs : List ℕ) (clock : ℕ) (t : TablesOf rs xs clock done minutes shut holders lows highs) (i : ℕ) (place : length xs ≡ i) where
    -- r is the first that keeps v shut where it does and none before it did
    first_shut : (v : ℕ) → v < most_points → (eqb p v && (said.shuts && not (member shut r.a))) ≡ (eqb r.a v && (said.shuts && not (some (shuts rs done v) xs)))
    first_shut v h = go said.shuts refl (ℕ_discrete v r.a)
      where
        none : (a b x y : Bool) → (a && (false && x)) ≡ (b && (false && y))
        none true true x y = refl
        none true false x y = refl
        none false true x y = refl
        none false false x y = refl

        go : (so : Bool) → said.shuts ≡ so → Dec (v ≡ r.a) → (eqb p v && (so && not (member shut r.a))) ≡ (eqb r.a v && (so && not (some (shuts rs done v) xs)))
        go false e d = none (eqb p v) (eqb r.a v) (not (member shut r.a)) (not (some (shuts rs done v) xs))
        go true e (yes f) = let z : p ≡ r.a = omega (arith, shuts_place e) in rw (z, ← (t.shut_by v h), f)
        go true e (no n) = let z : p ≡ r.a = omega (arith, shuts_place e) in rw (z, ne_eqb r.a v (λ f. n (sym f)))

    pub held_more : (v : ℕ) → v < most_points → get_or (held holders shut r.a said.shuts i) v 0 ≡ number_at (place_from 0 (shuts rs done v) (xs ++ (r ∷ [])))
    held_more v h =
        let z : 0 + length xs ≡ i = omega (arith, place) in
        put_held holders p v i (said.shuts && not (member shut r.a)) (omega (arith, t.long_holders))
        ∙ rw (first_shut v h, t.held_by v h, place_snoc 0 (shuts rs done v) xs r, z, shuts_said v)
        (first_held (eqb r.a v) said.shuts (some (shuts rs done v) xs) i _ (λ f. ap number_at (no_place 0 (shuts rs done v) xs f)))

    pub tables_more : TablesOf rs (xs ++ (r ∷ [])) clock done minutes (if said.shuts then with_of shut r.a else shut) (held holders shut r.a said.shuts i) (set lows p (max (get_or lows p 0) said.low)) (set highs q (min (get_or highs q 0) said.high))
    tables_more =
        record {
          fits = put_fits said.shuts;
          long_holders = simp length-set t.long_holders;
          long_lows = simp length-set t.long_lows;
          long_highs = simp length-set t.long_highs;
          shut_by = λ v h. rw (some_snoc (shuts rs done v) xs r, put_shut said.shuts shut r.a v shuts_place, shuts_said v, t.shut_by v h);
          held_by = held_more;
          low_by = λ v h.
              rw (greatest_snoc (earliest rs done minutes v) xs r, put_low lows p v said.low (omega (arith, t.long_lows)), ← (earliest_said v))
              (omega (arith, t.low_by v h));
          high_by = λ v h.
              rw (
                least_snoc (bound done minutes v) xs r,
                put_high highs q v said.high (omega (arith, t.long_highs)) (omega (arith, t.high_by v h, least_le (bound done minutes v) xs)),
                ← (bound_said v),
                t.high_by v h,
              );
        }
      where
        put_fits : (so : Bool) → (if so then with_of shut r.a else shut) < 2 ^ 32
        put_fits true = with_fits shut r.a t.fits
        put_fits false = t.fits

-- ---- the loop

-- no records say nothing
pub tables_start : (rs : List Record) (clock done : ℕ) (minutes : List ℕ) → TablesOf rs (take 0 rs) clock done minutes 0 (replicate most_points 0) (replicate most_points clock) (replicate most_points never)
unfolding some place_from greatest least
tables_start rs clock done minutes =
    record {
      fits = omega arith;
      long_holders = length-replicate {A = ℕ} most_points 0;
      long_lows = length-replicate most_points clock;
      long_highs = length-replicate most_points never;
      shut_by = λ q h. member_empty q;
      held_by = λ q h. get_or-replicate most_points q 0 0 h;
      low_by = λ q h. get_or-replicate most_points q clock 0 h ∙ omega arith;
      high_by = λ q h. get_or-replicate most_points q never 0 h;
    }

module _ (rs : List Record) (done : ℕ) (minutes : List ℕ) (fits : done < 2 ^ 32) (l : Links) (w : LinksOf rs l) (i : ℕ) (h : i < length rs) (r : Record) (here : get_or rs i blank ≡ r) (fine : Fine rs r)
    (shut : ℕ) (holders lows highs : List ℕ) (clock : ℕ) (t : TablesOf rs (take i rs) clock done minutes shut holders lows highs) where
  abbrev told : Said
  told = said rs done minutes fits l.ends w.ends r fine

  place : length (take i rs) ≡ i
  place = length-take i rs ∙ omega arith

  -- a record more
  pub tables_turn : TablesOf rs (take (i + 1) rs) clock done minutes (if told.shuts then with_of shut r.a else shut) (held holders shut r.a told.shuts i) (set lows (r.a % most_points) (max (get_or lows (r.a % most_points) 0) told.low))
      (set highs (r.b % most_points) (min (get_or highs (r.b % most_points) 0) told.high))
  tables_turn = rw (one_more rs i h, here) (tables_more rs done minutes fits l.ends w.ends r fine (take i rs) shut holders lows highs clock t i place)
