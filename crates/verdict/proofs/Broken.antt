-- What the verdict rests on: that only an accepted plan gets one, that a record is judged by its own points and by where the link to its
-- second one starts, and what a turn, a broken record and the end give. Assumes nothing.
use mathlib.Core.Path.{◌≡◌, refl, sym, ap, ◌∙◌}
use mathlib.Core.Bool.{Bool, true, false, not}
use mathlib.Core.List.{List, [], ◌∷◌}
use Prim.Native.Nat.{ℕ, suc, ◌+◌, ◌-◌, ◌%◌, ◌≤◌, ◌<◌, min}
use native.Mathlib.Omega.{arith}
use native.Mathlib.Numerals.{add-one}
use lib.Dec.{eqb, leb}
use lib.ListN.{length, drop, get_or, drop_of_length-le}
use lib.Seq.{drop-cons}
use borrow.Author.Tests.{eqb-true, ne_eqb}
use Rattle.points.specs.Sets.{below_of}
use Rattle.std.specs.Prelude.{if◌then◌else◌}
use Rattle.plan.specs.Limits.{most_points}
use Rattle.plan.specs.APlan.{point, ordinary, wait, is, link_to, gap_of, blank, records_of}
use Rattle.plan.proofs.Accepted.{Rules, Accepted, not_a}
use Rattle.plan.specs.ReplyNumbers.{refusal, accepted, check_of}
use Rattle.records.specs.declared.Record.{Record}
use Rattle.plan.specs.declared.Plan.{Plan}
use Rattle.plan.specs.declared.Refusal.{Refusal}
use Rattle.bounds.specs.Bounds.{bound_kept}
use Rattle.board.proofs.Theorems.Links.{link_to_lem}
use Rattle.board.proofs.Linked.{sound_by_lem}
use Rattle.board.specs.ByLinks.{sound_by}
use Rattle.verdict.specs.Verdicts.{ordinary_kept, wait_kept, kept, first_broken, ended_of, verdict_of}
use Rattle.links.specs.Inside.{no_end, end_of, LinksOf}
use Rattle.verdict.specs.Inside.{kept_at, ended_by}
use Rattle.board.specs.declared.Board.{Board}
use Rattle.verdict.specs.declared.Verdict.TheVariants.{Refused, Kept, Broken}
use Rattle.links.specs.declared.End.{End}
use Rattle.links.specs.declared.Links.{Links}

module _ (rs : List Record) (ok : Accepted rs) (ends : List End) (found : (p : ℕ) → p < most_points → get_or ends p no_end ≡ end_of rs p) (b : Board) (i : ℕ) (h : i < length rs) (r : Record) (here : get_or rs i blank ≡ r) where
  -- where the link to the second point starts, and what is read of a point
  abbrev from : ℕ
  from = (get_or ends (r.b % most_points) no_end).from

  abbrev read : ℕ → ℕ
  read p = get_or b.minutes (p % most_points) 0

  rules : Rules rs r
  rules = rw here at (ok.each i h)

  -- a record that is no point names points of the plan, so that each is read at its own place
  below : is point r ≡ false → (r.a % most_points ≡ r.a) × (r.b % most_points ≡ r.b) × (r.b < most_points)
  below n =
      let s = rules.names n in
      let few = ok.few in
      (omega arith, omega arith, omega arith)

  by_kind : (o w : Bool) → is ordinary r ≡ o → is wait r ≡ w
      → (if o then bound_kept (read r.a) r.first (read r.b) else (if w then leb (read from + min (gap_of r.first).up (read r.b - read from)) (read r.a) else true))
      ≡ (if o then ordinary_kept b r else (if w then wait_kept b (link_to rs r.b) r else true))
  by_kind true w f e = let s = below (not_a r ordinary point (λ k. omega arith) f) in rw (s.0, s.1)
  by_kind false false f e = refl
  by_kind false true f e =
      let s = below (not_a r wait point (λ k. omega arith) e) in
      let l = link_to_lem rs ok r.b (rules.wait_watched e) in
      let m : (link_to rs r.b).a % most_points ≡ (link_to rs r.b).a = omega (arith, l.from) in
      let f : from ≡ (link_to rs r.b).a = ap (λ (n : ℕ). (get_or ends n no_end).from) s.1 ∙ ap (λ (e : End). e.from) (found r.b s.2) in
      rw (f, m, s.0, s.1, (ok.ends r.b (rules.wait_watched e)).1)

  -- a record is judged as the rules say
  pub kept_from : kept_at (read r.a) (read r.b) (read from) r ≡ kept rs b r
  kept_from = by_kind (is ordinary r) (is wait r) refl refl

-- a board of some minutes, and nothing else: the verdict goes by the minutes alone
abbrev pub day_of : List ℕ → Board
day_of minutes = record { clock = 0; done = 0; minutes = minutes; calls = [] }

pub by_minutes : (rs : List Record) (b : Board) (i : ℕ) (xs : List Record) → first_broken rs (day_of b.minutes) i xs ≡ first_broken rs b i xs
unfolding first_broken
by_minutes rs b i [] = refl
by_minutes rs b i (x ∷ xs) = rw (by_minutes rs b (suc i) xs)

module _ (rs : List Record) (b : Board) (i : ℕ) where
  pub broken_here : i < length rs → kept rs b (get_or rs i blank) ≡ false → Broken i ≡ first_broken rs b i (drop i rs)
  unfolding first_broken
  broken_here h e = rw (drop-cons rs i blank h, e)

  pub broken_turn : i < length rs → kept rs b (get_or rs i blank) ≡ true → first_broken rs b i (drop i rs) ≡ first_broken rs b (i + 1) (drop (i + 1) rs)
  unfolding first_broken
  broken_turn h e = rw (drop-cons rs i blank h, e, add-one i)

  pub broken_end : length rs ≤ i → Kept ≡ first_broken rs b i (drop i rs)
  unfolding first_broken
  broken_end h = rw (drop_of_length-le rs h)

-- ---- what comes before a verdict

-- a plan whose board is not refused is accepted
pub ended_accepted : (p : Plan) (b : Board) → (ended_of p b).number ≡ 0 → (check_of p).number ≡ 0
unfolding ended_of
ended_accepted p b = go (check_of p) _ (eqb (check_of p).number 0) refl
  where
    go : (x y : Refusal) (t : Bool) → eqb x.number 0 ≡ t → (if not t then x else y).number ≡ 0 → x.number ≡ 0
    go x y true f e = eqb-true x.number 0 f
    go x y false f e = e

-- 20 and 31 by their two tests
abbrev ended_as : Bool → Bool → Refusal
ended_as s f = if not s then refusal 20 0 else (if not f then refusal 31 0 else accepted)

-- whatever the code has for them
pub ended_as_lem : (l : Links) (b : Board) {x s y f : Bool} → x ≡ sound_by l b → x ≡ s → y ≡ eqb b.done (below_of l.points) → y ≡ f → ended_as s f ≡ ended_by l b
unfolding ended_by
ended_as_lem l b e g h k = λ i. ended_as ((sym g ∙ e) i) ((sym k ∙ h) i)

module _ (p : Plan) (found : Refusal) (e : found ≡ check_of p) (b : Board) where
  pub ended_refused : (found.number ≡ 0 → ⊥) → found ≡ ended_of p b
  unfolding ended_of
  ended_refused n = rw (← e, ne_eqb found.number 0 n)

  -- by the links of an accepted plan
  pub ended_by_lem : found.number ≡ 0 → (l : Links) → LinksOf (records_of p) l → ended_by l b ≡ ended_of p b
  unfolding ended_of ended_by
  ended_by_lem z l w =
      rw (rw e at z, ← (sound_by_lem p (rw e at z) l w b))
      (λ i. ended_as (sound_by l b) (eqb b.done (below_of (w.points i))))

-- the verdict, by what comes before it
module _ (p : Plan) (b : Board) (x : Refusal) (e : x ≡ ended_of p b) where
  pub verdict_refused : (x.number ≡ 0 → ⊥) → Refused x.number x.place ≡ verdict_of p b
  unfolding verdict_of
  verdict_refused n = rw (← e, ne_eqb x.number 0 n)

  pub verdict_judged : x.number ≡ 0 → first_broken (records_of p) b 0 (records_of p) ≡ verdict_of p b
  unfolding verdict_of
  verdict_judged z = rw (← e, z)
