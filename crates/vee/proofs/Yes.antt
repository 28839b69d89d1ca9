-- The test answers yes exactly where the plan passes. The projections that are tested stand for all that are in bounds: only
-- the durations at the links' C count, and each choice of these is one of the list. Each of the list is in bounds too, since no
-- two links end at one point. No function needs this file: it says what the contract of the test is worth. Assumes nothing.
use mathlib.Core.Path.{◌≡◌, refl, sym, subst, ap, ◌∙◌}
use mathlib.Core.List.{List, [], ◌∷◌, ◌++◌}
use Prim.Native.Nat.{ℕ, zero, suc, min, ◌+◌, ◌-◌, ◌<◌, ◌≤◌}
use native.Mathlib.Omega.{arith}
use native.Mathlib.Decide.{ℕ_discrete}
use lib.ListN.{length, get_or, set, length-set, length-replicate}
use lib.Seq.{get_or-set_same, get_or-set_other}
use borrow.Author.Tests.{eqb-true}
use Rattle.plan.specs.Limits.{most_points}
use Rattle.plan.specs.APlan.{point, is, how_many, link_to, blank, gap_of, records_of}
use Rattle.plan.specs.ReplyNumbers.{check_of}
use Rattle.records.specs.declared.Record.{Record}
use Rattle.plan.specs.declared.Plan.{Plan}
use Rattle.network.specs.Projection.{Net, InBounds, Edge, ordinary, there, back, wait}
use Rattle.network.specs.Passing.{Good, Passes}
use Rattle.vee.specs.declared.Answer.{Answer}
use Rattle.vee.specs.declared.Answer.TheVariants as answer
use Rattle.rows.specs.Sheet.{by}
use Rattle.projection.proofs.Laws.{same_good}
use Rattle.vee.specs.PlanTest.{LinkIn, net_of, Span, span_of, spans, spread, projections, unset, many, most_projections, Found, all_good, good, edges_of, Tested, tested}
use Rattle.vee.proofs.Single.{one_answer}
use Rattle.vee.proofs.Rules.{Valid}
use Rattle.vee.proofs.Plans.{Whole, whole, Linked, linked, few_points}
use Rattle.vee.proofs.Orders.{span_here, span_not}
use Rattle.vee.proofs.Testing.{accepted_plan}
use Rattle.vee.proofs.Walks.{as_many}

-- ---- what holds of each of a list

pub data Every {A : Type 0} (P : A → Type 0) : List A → Type 0 where
  none : Every P []
  also : {x : A} {xs : List A} → P x → Every P xs → Every P (x ∷ xs)

module _ {A : Type 0} {P : A → Type 0} where
  front : (xs ys : List A) → Every P (xs ++ ys) → Every P xs
  front [] ys e = none
  front (x ∷ xs) ys (also p e) = also p (front xs ys e)

  rest : (xs : List A) {ys : List A} → Every P (xs ++ ys) → Every P ys
  rest [] e = e
  rest (x ∷ xs) (also p e) = rest xs e

  pub join : {xs ys : List A} → Every P xs → Every P ys → Every P (xs ++ ys)
  join none f = f
  join (also p e) f = also p (join e f)

  -- what follows from it holds of each too
  pub following : {Q : A → Type 0} {xs : List A} → ((x : A) → P x → Q x) → Every P xs → Every Q xs
  following h none = none
  following h (also {x} p e) = also (h x p) (following h e)

-- a yes says that each is good
pub found_good : {E : List ℕ → ℕ → ℕ → ℕ → ℕ → Type 0} {i j : ℕ} {ws : List (List ℕ)} → Found E i ws (answer.Yes j) → Every (λ w. Good (E w)) ws
found_good all_good = none
found_good (good g f) = also g (found_good f)

-- ---- the links among the records

-- what holds of each link's span holds of the links, by their places
module _ {P : Span → Type 0} where
  span_of_lem : (rs : List Record) → Every P (spans rs) → (i : ℕ) → i < length rs → (get_or rs i blank).kind ≡ 2 → P (span_of (get_or rs i blank))
  span_of_lem [] e i h k = absurd (omega arith)
  span_of_lem (r ∷ rs) e zero h k = first (rw (span_here r rs k) at e)
    where
      first : Every P (span_of r ∷ spans rs) → P (span_of r)
      first (also p e) = p
  span_of_lem (r ∷ rs) e (suc i) h k = elim (ℕ_discrete r.kind 2) [
    | yes l ↦ span_of_lem rs (rest (span_of r ∷ []) (rw (span_here r rs l) at e)) i (omega arith) k
    | no l ↦ span_of_lem rs (rw (span_not r rs l) at e) i (omega arith) k
  ]

  -- the same, by a link as the network has it
  at_link : (rs : List Record) → Every P (spans rs) → {A x y C : ℕ} (l : LinkIn rs A x y C) → P (span_of l.what)
  at_link rs e l =
      let h = l.has in
      subst (λ (r : Record). P (span_of r)) h.here (span_of_lem rs e h.place h.listed (rw h.here (eqb-true l.what.kind 2 h.kind)))

  -- and the other way about
  pub of_spans : (rs : List Record) → ((i : ℕ) → i < length rs → (get_or rs i blank).kind ≡ 2 → P (span_of (get_or rs i blank))) → Every P (spans rs)
  unfolding spans
  of_spans [] h = none
  of_spans (r ∷ rs) h =
      let e = of_spans rs (λ i l k. h (suc i) (omega arith) k) in
      elim (ℕ_discrete r.kind 2) [
        | yes l ↦ rw (span_here r rs l) (also (h 0 (omega arith) l) e)
        | no l ↦ rw (span_not r rs l) e
      ]

-- ---- the durations at the links' C

-- durations that agree there have the same edges
module _ (N : Net) where
  pub record Agree (ω ν : ℕ → ℕ) : Type 0 where
    pub same : {A x y C : ℕ} → N.Link A x y C → ω C ≡ ν C

  pub turned : {ω ν : ℕ → ℕ} → Agree ω ν → Agree ν ω
  turned a = record { same = λ l. sym (a.same l) }

  pub carry : {ω ν : ℕ → ℕ} → Agree ω ν → (X Y u d : ℕ) → Edge N ω X Y u d → Edge N ν X Y u d
  carry a X Y u d (ordinary o) = ordinary o
  carry {ω} {ν} a X Y u d (there {A} {C = C} l) = subst (λ (t : ℕ). Edge N ν A C t 0) (sym (a.same l)) (there l)
  carry {ω} {ν} a X Y u d (back {A} {C = C} l) = subst (λ (t : ℕ). Edge N ν C A 0 t) (sym (a.same l)) (back l)
  carry {ω} {ν} a X Y u d (wait {A} {B = B} {w = w} l h) = subst (λ (t : ℕ). Edge N ν B A 0 (min w t)) (sym (a.same l)) (wait l h)

  pub agree_good : {ω ν : ℕ → ℕ} → Agree ω ν → Good (Edge N ω) → Good (Edge N ν)
  agree_good a = same_good (carry a) (carry (turned a))

-- durations after a link's has been set
by_same : (w : List ℕ) (C p : ℕ) → C < length w → by (set w C p) C ≡ p
by_same w C p h = get_or-set_same w C p 0 h

by_other : (w : List ℕ) (C D p : ℕ) → (D ≡ C → ⊥) → by (set w C p) D ≡ by w D
by_other w C D p n = get_or-set_other w C D p 0 n

-- ---- each choice in bounds is tested

-- a duration that a link can have is among those that are spread
one_spread : {P : List ℕ → Type 0} (f : List ℕ → List (List ℕ)) (C p k q : ℕ) (w : List ℕ) → p ≤ q → q < p + k → Every P (spread f C p k w) → Every P (f (set w C q))
unfolding spread
one_spread f C p zero q w l h e = absurd (omega arith)
one_spread {P} f C p (suc k) q w l h e = elim (ℕ_discrete p q) [
  | yes i ↦ subst (λ (t : ℕ). Every P (f (set w C t))) i (front (f (set w C p)) (spread f C (suc p) k w) e)
  | no i ↦ one_spread f C (suc p) k q w (omega arith) (omega arith) (rest (f (set w C p)) e)
]

module _ (ω : ℕ → ℕ) where
  -- ω gives the link one of its durations, at a point that has a place for it
  record Chosen (l : Span) : Type 0 where
    place : l.over < most_points
    low : l.least ≤ ω l.over
    high : ω l.over ≤ l.most

  -- one of the list has ω's durations at the links, and wherever w has them
  record Stands (P : List ℕ → Type 0) (ls : List Span) (w : List ℕ) : Type 0 where
    who : List ℕ
    holds : P who
    at_links : Every (λ l. by who l.over ≡ ω l.over) ls
    keeps : (C : ℕ) → by w C ≡ ω C → by who C ≡ ω C

  stands : {P : List ℕ → Type 0} (ls : List Span) (w : List ℕ) → length w ≡ most_points → Every Chosen ls → Every P (projections ls w) → Stands P ls w
  unfolding projections
  stands [] w n none (also p e) = record { who = w; holds = p; at_links = none; keeps = λ C h. h }
  stands (l ∷ ls) w n (also c cs) e =
      let C = l.over in
      let q = ω C in
      let s = stands ls (set w C q) (length-set w C q ∙ n) cs (one_spread (projections ls) C l.least (suc l.most - l.least) q w c.low (omega (arith, c.low, c.high)) e) in
      record {
        who = s.who;
        holds = s.holds;
        at_links = also (s.keeps C (by_same w C q (omega (arith, c.place)))) s.at_links;
        keeps = λ D h. s.keeps D (kept D h);
      }
    where
      kept : (D : ℕ) → by w D ≡ ω D → by (set w l.over (ω l.over)) D ≡ ω D
      kept D h = elim (ℕ_discrete D l.over) [
        | yes i ↦ rw i (by_same w l.over (ω l.over) (omega (arith, c.place)))
        | no i ↦ by_other w l.over D (ω l.over) i ∙ h
      ]

module _ (rs : List Record) (v : Valid [] rs) where
  -- the points have places, and each link is as an accepted plan has it
  pub few : how_many (is point) rs ≤ most_points
  unfolding how_many
  few = few_points v (omega arith)

  pub a_link_lem : (i : ℕ) → i < length rs → (get_or rs i blank).kind ≡ 2 → Linked rs (get_or rs i blank)
  a_link_lem i h k = linked k (whole rs v i h)

  -- durations in bounds give each link one of its own
  chosen : (ω : ℕ → ℕ) → InBounds (net_of rs) ω → Every (Chosen ω) (spans rs)
  chosen ω b = of_spans rs go
    where
      go : (i : ℕ) → i < length rs → (get_or rs i blank).kind ≡ 2 → Chosen ω (span_of (get_or rs i blank))
      go i h k =
          let r = get_or rs i blank in
          let t = a_link_lem i h k in
          let l : LinkIn rs r.a t.x t.y r.b = record { what = r; has = record { place = i; listed = h; here = refl; kind = rw k refl }; from = refl; to = refl; least = t.least; most = t.most } in
          let m = b.within l in
          record { place = omega (arith, t.to, few); low = rw t.least m.0; high = rw t.most m.1 }

  -- For any durations in bounds one of the list has the same at the links' C.
  pub stands_for : {P : List ℕ → Type 0} → Every P (projections (spans rs) unset) → (ω : ℕ → ℕ) → InBounds (net_of rs) ω
      → (w : List ℕ) × P w × Agree (net_of rs) (by w) ω
  stands_for e ω b =
      let s = stands ω (spans rs) unset (length-replicate {A = ℕ} most_points 0) (chosen ω b) e in
      (s.who, s.holds, record { same = λ {A} {x} {y} {C} l. rw (← l.to) (at_link rs s.at_links l) })

  -- where all that are tested are good, so is each projection in bounds: one of the list stands for it
  all_pass : Every (λ w. Good (edges_of rs w)) (projections (spans rs) unset) → Passes (net_of rs)
  all_pass e = record { each = λ ω b. let s = stands_for e ω b in agree_good (net_of rs) s.2 s.1 }

-- A plan to which the test answers yes passes.
pub yes_passes : {p : Plan} {j : ℕ} → Tested p (answer.Yes j) → Passes (net_of (records_of p))
yes_passes {p} (tested e m f) = all_pass (records_of p) (accepted_plan p e).1 (found_good f)

-- ---- each choice that is tested is in bounds

-- what holds after each duration of a link holds of all that are spread
all_spread : {P : List ℕ → Type 0} (f : List ℕ → List (List ℕ)) (C p k : ℕ) (w : List ℕ) → ((q : ℕ) → p ≤ q → q < p + k → Every P (f (set w C q))) → Every P (spread f C p k w)
unfolding spread
all_spread f C p zero w h = none
all_spread f C p (suc k) w h = join (h p (omega arith) (omega arith)) (all_spread f C (suc p) k w (λ q l m. h q (omega arith) (omega arith)))

-- B says of a duration that a point may have it
module _ (B : ℕ → ℕ → Type 0) where
  -- the link's C may have each of the link's durations
  pub record Able (l : Span) : Type 0 where
    pub place : l.over < most_points
    pub may : (q : ℕ) → l.least ≤ q → q ≤ l.most → B l.over q

  -- in each of the list the links' C have a duration that they may have, and so has each point that has one in w: what
  -- follows from that holds of the whole list
  pub in_bounds_lem : {P : List ℕ → Type 0} (ls : List Span) (w : List ℕ) → length w ≡ most_points → Every Able ls
      → ((w' : List ℕ) → Every (λ l. B l.over (by w' l.over)) ls → ((C : ℕ) → B C (by w C) → B C (by w' C)) → P w')
      → Every P (projections ls w)
  unfolding projections
  in_bounds_lem [] w n none f = also (f w none (λ C h. h)) none
  in_bounds_lem (l ∷ ls) w n (also a able) f =
      all_spread (projections ls) l.over l.least (suc l.most - l.least) w (λ q low high.
      let b = a.may q low (omega arith) in
      in_bounds_lem ls (set w l.over q) (length-set w l.over q ∙ n) able (λ w' e k. f w' (also (k l.over (new q b)) e) (λ D h. k D (kept q b D h))))
    where
      new : (q : ℕ) → B l.over q → B l.over (by (set w l.over q) l.over)
      new q b = rw (by_same w l.over q (omega (arith, a.place))) b

      kept : (q : ℕ) → B l.over q → (D : ℕ) → B D (by w D) → B D (by (set w l.over q) D)
      kept q b D h = elim (ℕ_discrete D l.over) [
        | yes i ↦ rw i (new q b)
        | no i ↦ rw (by_other w l.over D q i) h
      ]

-- where all are good, the answer is yes with their number
all_found : {E : List ℕ → ℕ → ℕ → ℕ → ℕ → Type 0} (i j : ℕ) {ws : List (List ℕ)} → j ≡ i + length ws → Every (λ w. Good (E w)) ws → Found E i ws (answer.Yes j)
all_found {E} i j h none = subst (λ (t : ℕ). Found E i [] (answer.Yes t)) (omega arith) all_good
all_found i j h (also g e) = good g (all_found (i + 1) j (omega arith) e)

module _ (rs : List Record) (v : Valid [] rs) where
  -- the point C may have the duration q: each link that ends at C allows it
  record May (C q : ℕ) : Type 0 where
    allowed : {A x y : ℕ} → LinkIn rs A x y C → (x ≤ q) × (q ≤ y)

  -- a link that ends where the link r does is r, and has r's durations
  allows : {r : Record} → Linked rs r → (q : ℕ) → (gap_of r.first).up ≤ q → q ≤ (gap_of r.second).up → {A x y : ℕ} → LinkIn rs A x y r.b → (x ≤ q) × (q ≤ y)
  allows {r} t q low high l =
      let h = l.has in
      let o : Whole rs l.what = rw (← h.here) (whole rs v h.place h.listed) in
      let e : r ≡ l.what = sym t.alone ∙ ap (link_to rs) (sym l.to) ∙ (linked (eqb-true l.what.kind 2 h.kind) o).alone in
      (rw (e, l.least) at low, rw (e, l.most) at high)

  -- so a link's C may have each of the link's durations
  able : Every (Able May) (spans rs)
  able = of_spans rs (λ i h k.
      let t = a_link_lem rs v i h k in
      record { place = omega (arith, t.to, few rs v); may = λ q low high. record { allowed = allows t q low high } })

  -- Each of the list is in bounds.
  pub each_in_bounds : Every (λ w. InBounds (net_of rs) (by w)) (projections (spans rs) unset)
  each_in_bounds = in_bounds_lem May (spans rs) unset (length-replicate {A = ℕ} most_points 0) able go
    where
      go : (w : List ℕ) → Every (λ l. May l.over (by w l.over)) (spans rs) → ((C : ℕ) → May C (by unset C) → May C (by w C))
          → InBounds (net_of rs) (by w)
      go w e k = record { within = λ {A} {x} {y} {C} l. (rw l.to at (at_link rs e l)).allowed l }

  -- where each projection in bounds is good, so are all that are tested
  passing_good : Passes (net_of rs) → Every (λ w. Good (edges_of rs w)) (projections (spans rs) unset)
  passing_good p = following (λ w b. p.each (by w) b) each_in_bounds

-- A plan that is accepted, has no more projections than are tested, and passes, is answered yes, with their number.
pub passes_yes : {p : Plan} → (check_of p).number ≡ 0 → many (spans (records_of p)) ≤ most_projections → Passes (net_of (records_of p)) → Tested p (answer.Yes (many (spans (records_of p))))
passes_yes {p} e m h = tested e m (all_found 0 (many (spans (records_of p))) (omega (arith, as_many (spans (records_of p)) unset)) (passing_good (records_of p) (accepted_plan p e).1 h))

-- So the one answer to such a plan is a yes exactly where it passes, and then with the number of its projections.
pub yes_exactly : {p : Plan} {a : Answer} → (check_of p).number ≡ 0 → many (spans (records_of p)) ≤ most_projections → Tested p a
    → ((j : ℕ) → a ≡ answer.Yes j → Passes (net_of (records_of p))) × (Passes (net_of (records_of p)) → a ≡ answer.Yes (many (spans (records_of p))))
yes_exactly e m t = (λ j i. yes_passes (rw i at t), λ h. one_answer t (passes_yes e m h))
