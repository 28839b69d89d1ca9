-- What an answer says of the projections by their numbers: each before the answer's is good and that one is not; a yes has the
-- number of all, and all are good. Assumes nothing.
use mathlib.Core.Path.{◌≡◌}
use mathlib.Core.List.{List, ◌∷◌}
use Prim.Native.Nat.{ℕ, zero, suc, ◌+◌, ◌<◌}
use native.Mathlib.Omega.{arith}
use lib.ListN.{length, get_or}
use Rattle.plan.specs.APlan.{records_of}
use Rattle.plan.specs.declared.Plan.{Plan}
use Rattle.network.specs.Passing.{Cycle, Good}
use Rattle.vee.specs.declared.Answer.TheVariants as answer
use Rattle.projection.specs.Judging.{FirstBad}
use Rattle.vee.specs.PlanTest.{spans, projections, unset, many, edges_of, Found, good, cycle, pair, Tested, tested}
use Rattle.vee.proofs.Walks.{counted, as_many}
use Rattle.vee.proofs.Yes.{Every, none, also, found_good}

-- What holds of each of a list holds at each place of it.
pub every_at : {A : Type 0} {P : A → Type 0} {xs : List A} (d : A) → Every P xs → (i : ℕ) → i < length xs → P (get_or xs i d)
every_at d none i h = absurd (omega arith)
every_at d (also p e) zero h = p
every_at d (also p e) (suc i) h = every_at d e i (omega arith)

-- among ws, the first of them number i, number n is the first that is not good, and is bad as B says
record Stops (E : List ℕ → ℕ → ℕ → ℕ → ℕ → Type 0) (B : (ℕ → ℕ → ℕ → ℕ → Type 0) → Type 0) (i n : ℕ) (ws : List (List ℕ)) : Type 0 where
  place : ℕ
  number : n ≡ i + place
  listed : place < length ws
  before : (j : ℕ) → j < place → Good (E (get_or ws j unset))
  here : B (E (get_or ws place unset))

module _ {E : List ℕ → ℕ → ℕ → ℕ → ℕ → Type 0} {B : (ℕ → ℕ → ℕ → ℕ → Type 0) → Type 0} where
  at_once : {i : ℕ} {w : List ℕ} {ws : List (List ℕ)} → B (E w) → Stops E B i i (w ∷ ws)
  at_once b = record { place = 0; number = omega arith; listed = omega arith; before = λ j h. absurd (omega arith); here = b }

  after_good : {i n : ℕ} {w : List ℕ} {ws : List (List ℕ)} → Good (E w) → Stops E B (i + 1) n ws → Stops E B i n (w ∷ ws)
  after_good {w = w} {ws = ws} g s = record { place = suc s.place; number = omega (arith, s.number); listed = omega (arith, s.listed); before = before; here = s.here }
    where
      before : (j : ℕ) → j < suc s.place → Good (E (get_or (w ∷ ws) j unset))
      before zero h = g
      before (suc j) h = s.before j (omega arith)

cycle_stops : {E : List ℕ → ℕ → ℕ → ℕ → ℕ → Type 0} {i n : ℕ} {ws : List (List ℕ)} → Found E i ws (answer.Cycle n) → Stops E Cycle i n ws
cycle_stops (good g f) = after_good g (cycle_stops f)
cycle_stops (cycle c) = at_once c

pair_stops : {E : List ℕ → ℕ → ℕ → ℕ → ℕ → Type 0} {i n X Y : ℕ} {ws : List (List ℕ)} → Found E i ws (answer.Pair n X Y) → Stops E (λ F. FirstBad F X Y) i n ws
pair_stops (good g f) = after_good g (pair_stops f)
pair_stops (pair b) = at_once b

-- the edges of projection number i of a plan
abbrev pub edges_at : Plan → ℕ → ℕ → ℕ → ℕ → ℕ → Type 0
edges_at p i = edges_of (records_of p) (get_or (projections (spans (records_of p)) unset) i unset)

-- number n is the first projection that is not good, and is bad as B says
pub record FirstFails (p : Plan) (n : ℕ) (B : (ℕ → ℕ → ℕ → ℕ → Type 0) → Type 0) : Type 0 where
  pub numbered : n < many (spans (records_of p))
  pub before : (i : ℕ) → i < n → Good (edges_at p i)
  pub fails : B (edges_at p n)

-- all n projections are good
pub record AllGood (p : Plan) (n : ℕ) : Type 0 where
  pub all : n ≡ many (spans (records_of p))
  pub each : (i : ℕ) → i < n → Good (edges_at p i)

first_fails : {p : Plan} {n : ℕ} {B : (ℕ → ℕ → ℕ → ℕ → Type 0) → Type 0} → Stops (edges_of (records_of p)) B 0 n (projections (spans (records_of p)) unset) → FirstFails p n B
first_fails {p} {n} s =
    let e : n ≡ s.place = omega (arith, s.number) in
    rw e (record { numbered = omega (arith, s.listed, as_many (spans (records_of p)) unset); before = s.before; fails = s.here })

pub cycle_at : {p : Plan} {n : ℕ} → Tested p (answer.Cycle n) → FirstFails p n Cycle
cycle_at (tested e m f) = first_fails (cycle_stops f)

pub pair_at : {p : Plan} {n X Y : ℕ} → Tested p (answer.Pair n X Y) → FirstFails p n (λ E. FirstBad E X Y)
pair_at (tested e m f) = first_fails (pair_stops f)

pub yes_at : {p : Plan} {n : ℕ} → Tested p (answer.Yes n) → AllGood p n
yes_at {p} {n} (tested e m f) =
    let c : n ≡ 0 + length (projections (spans (records_of p)) unset) = counted (edges_of (records_of p)) f in
    record { all = omega (arith, as_many (spans (records_of p)) unset); each = λ i h. every_at unset (found_good f) i (omega arith) }
