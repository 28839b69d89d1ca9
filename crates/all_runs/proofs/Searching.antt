-- The loop over the projections: each is run, and the worst so far is kept. Assumes nothing.
use mathlib.Core.Path.{◌≡◌, refl, sym, ap, subst, ◌∙◌}
use mathlib.Core.Bool.{Bool, true, false}
use mathlib.Core.List.{List, [], ◌∷◌}
use Prim.Native.Nat.{ℕ, suc, ◌+◌, ◌*◌, ◌≤◌, ◌<◌}
use native.Mathlib.Omega.{arith}
use native.Mathlib.Numerals.{add-one}
use lib.Dec.{ltb}
use borrow.Author.Tests.{lt-ltb, le-ltb}
use lib.ListN.{length, drop}
use lib.Seq.{drop-cons, drop-length}
use Rattle.std.specs.Prelude.{if◌then◌else◌}
use Rattle.plan.specs.Limits.{most_points, most_records, record_bytes}
use Rattle.plan.specs.APlan.{points, records_of}
use Rattle.plan.specs.ReplyNumbers.{check_of}
use Rattle.plan.specs.declared.Plan.{Plan}
use Rattle.rows.specs.Sheet.{by}
use Rattle.network.specs.Projection.{InBounds}
use Rattle.vee.specs.PlanTest.{net_of, spans, many, unset, most_projections}
use Rattle.vee.specs.Walked.{spans_in}
use Rattle.vee.proofs.Walks.{as_many}
use Rattle.vee.proofs.Testing.{accepted_plan, links_are, may_count, may_walk}
use Rattle.vee.proofs.Yes.{each_in_bounds}
use Rattle.vee.proofs.Numbered.{every_at}
use Rattle.choices.specs.Choices.{chosen, ChooseAsks, ChosenAs}
use Rattle.projection_runs.specs.ProjectionRuns.{finishing}
use Rattle.projection_runs.specs.Coded.{lent, RunReady, RunAsks, RanOf}
use Rattle.projection_runs.specs.declared.Ran.{Ran}
use Rattle.projection_runs.proofs.Going.{few_of_run, rooms_ready}
use Rattle.all_runs.specs.WorstRun.{projections_of, projection_at, Finish, worse, worst_from, worst_of_all}
use Rattle.all_runs.specs.Coded.{AllReady, WorstAsks, worse_found, FoundOf}
use Rattle.all_runs.specs.declared.Found.{Found}
-- the case first: a wrong rule is then an error about it
use Rattle.all_runs.proofs.AWorse.{first_of_equal}
use Rattle.steps.specs.Found.{RoomsOf}
use Rattle.choices.proofs.Decoding.{projection_chosen}

-- a later minute takes the place of what was found, and nothing else does
pub is_worse : (found : Found) (t i : ℕ) → found.minute < t → record { minute = t; projection = i } ≡ worse_found found t i
is_worse found t i h = rw (lt-ltb found.minute t h) refl

pub no_worse : (found : Found) (t i : ℕ) → t ≤ found.minute → found ≡ worse_found found t i
no_worse found t i h = rw (le-ltb found.minute t h) refl

-- ---- one plan

-- Each projection is in bounds.
pub projection_in_bounds : (p : Plan) → (check_of p).number ≡ 0 → (j : ℕ) → j < many (spans (records_of p)) → InBounds (net_of (records_of p)) (by (projection_at p j))
projection_in_bounds p ok j h = every_at [] (each_in_bounds (records_of p) (accepted_plan p ok).1) j (omega (arith, as_many (spans (records_of p)) unset))

module _ (p : Plan) {s : List ℕ} {m n k total : ℕ} (a : AllReady p s m n k total) where
  ok : length (records_of p) ≤ most_records
  ok = omega (arith, a.sheet.rows, a.sheet.few)

  same_links : spans_in s (n + k) k ≡ spans (records_of p)
  same_links = rw (a.points, a.links) (links_are (records_of p) (accepted_plan p a.sheet.accepted).1 s a.sheet.laid ok)

  -- the points and the links are among the records
  pub few_rows : n + k ≤ most_records
  few_rows = rw (a.points, a.links) (may_count (records_of p) (accepted_plan p a.sheet.accepted).1 s a.sheet.laid ok).rows

  -- each number chooses a projection
  pub choose_asks : (i : ℕ) → i < total → ChooseAsks s (n + k) k total i
  choose_asks i h =
      let v = (accepted_plan p a.sheet.accepted).1 in
      let few : many (spans_in s (n + k) k) ≤ most_projections = omega (arith, ap many same_links, a.counted, a.few) in
      record {
        m = length (records_of p);
        n = points (records_of p);
        walk = rw (a.points, a.links) (may_walk (records_of p) v s a.sheet.laid ok (rw (a.points, a.links) at few));
        counted = a.counted ∙ ap many (sym same_links);
        one = h;
      }

  module _ {i : ℕ} (h : i < total) {w : List ℕ} (c : ChosenAs s (n + k) k i w) where
    in_all : i < many (spans (records_of p))
    in_all = omega (arith, a.counted)

    pub chosen_is : w ≡ projection_at p i
    chosen_is = c.is ∙ ap (λ ls. chosen ls unset i) same_links ∙ sym (projection_chosen (spans (records_of p)) unset i in_all)

    -- which can be run
    pub run_ready : RunReady p s m n w
    run_ready =
        record {
          sheet = a.sheet;
          points = a.points;
          passes = a.passes;
          within = subst (λ (w : List ℕ). InBounds (net_of (records_of p)) (by w)) (sym chosen_is) (projection_in_bounds p a.sheet.accepted i in_all);
          lasts = c.small;
        }

  -- what is left of the projections
  rest_here : (i : ℕ) → i < total → drop i (projections_of p) ≡ projection_at p i ∷ drop (suc i) (projections_of p)
  rest_here i h = drop-cons (projections_of p) i [] (omega (arith, as_many (spans (records_of p)) unset, a.counted))

  rest_past : (i : ℕ) → i ≡ total → drop i (projections_of p) ≡ []
  rest_past i e =
      let z : i ≡ length (projections_of p) = omega (arith, as_many (spans (records_of p)) unset, a.counted) in
      rw z (drop-length (projections_of p))

-- ---- whatever plan the sheet has

abbrev finish : Found → Finish
finish f = record { minute = f.minute; projection = f.projection }

pub record Searching (s : List ℕ) (m n k total : ℕ) (found : Found) (i : ℕ) : Type 0 where
  pub within : i ≤ total
  pub of : (p : Plan) → AllReady p s m n k total → worst_from p (finish found) i (drop i (projections_of p)) ≡ worst_of_all p

pub searching_start : (s : List ℕ) (m n k total : ℕ) → Searching s m n k total (record { minute = 0; projection = 0 }) 0
searching_start s m n k total = record { within = omega arith; of = λ p a. refl }

-- the worse by the code is the worse by the rules
worse_finish : (f : Found) (t i : ℕ) → finish (worse_found f t i) ≡ worse (finish f) t i
worse_finish f t i = go (ltb f.minute t)
  where
    go : (c : Bool) → finish (if c then record { minute = t; projection = i } else f) ≡ (if c then record { minute = t; projection = i } else finish f)
    go true = refl
    go false = refl

module _ {s : List ℕ} {m n k total : ℕ} {found : Found} {i : ℕ} (t : Searching s m n k total found i) where
  module _ (asks : WorstAsks s m n k total) (h : i < total) where
    pub search_asks : ChooseAsks s (n + k) k total i
    search_asks = choose_asks asks.plan asks.ready i h

    pub search_runs : {into out ends begun starts : List ℕ} → RoomsOf s m into out ends begun starts → {w : List ℕ} → ChosenAs s (n + k) k i w → {log : List ℕ}
        → record_bytes * most_points ≤ length log → RunAsks (lent s into out ends begun starts) n w log
    search_runs o c room =
        record {
          plan = asks.plan;
          ready = rooms_ready o asks.plan (run_ready asks.plan asks.ready h c);
          room = omega (arith, few_of_run asks.plan (run_ready asks.plan asks.ready h c));
        }

  on_with : (p : Plan) → AllReady p s m n k total → i < total → {into out ends begun starts : List ℕ} → RoomsOf s m into out ends begun starts
      → {w log log' : List ℕ} → ChosenAs s (n + k) k i w → {r : Ran} → RanOf (lent s into out ends begun starts) n w log log' r
      → {found' : Found} → found' ≡ worse_found found r.minute i → worst_from p (finish found') (i + 1) (drop (i + 1) (projections_of p)) ≡ worst_of_all p
  unfolding worst_from
  on_with p a h rooms {w} c {r} o {found'} e =
      let f : r.minute ≡ finishing p (projection_at p i) = o.minute p (rooms_ready rooms p (run_ready p a h c)) ∙ ap (finishing p) (chosen_is p a h c) in
      let g : finish found' ≡ worse (finish found) (finishing p (projection_at p i)) i = ap finish e ∙ worse_finish found r.minute i ∙ ap (λ (t : ℕ). worse (finish found) t i) f in
      rw (add-one i) (ap (λ (f : Finish). worst_from p f (suc i) (drop (suc i) (projections_of p))) g ∙ (rw (rest_here p a i h) at (t.of p a)))

  pub searching_turn : i < total → {into out ends begun starts : List ℕ} → RoomsOf s m into out ends begun starts → {w log log' : List ℕ} → ChosenAs s (n + k) k i w → {r : Ran}
      → RanOf (lent s into out ends begun starts) n w log log' r → {found' : Found}
      → found' ≡ worse_found found r.minute i → Searching s m n k total found' (i + 1)
  searching_turn h rooms {w} c {r} o {found'} e = record { within = omega arith; of = λ p a. on_with p a h rooms c o e }

  all : (p : Plan) → AllReady p s m n k total → total ≤ i → finish found ≡ worst_of_all p
  unfolding worst_from
  all p a h = rw (rest_past p a i (omega (arith, t.within))) at (t.of p a)

  pub searching_end : total ≤ i → FoundOf s m n k total found
  searching_end h =
      record {
        minute = λ p a. ap (λ (f : Finish). f.minute) (all p a h);
        projection = λ p a. ap (λ (f : Finish). f.projection) (all p a h);
      }
