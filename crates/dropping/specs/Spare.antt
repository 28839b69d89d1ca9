-- Whether a record is needed beside the others, projection by projection: the others alone are good, and join its two points by a
-- walk that is no longer than the record says. What the functions that find it ask and answer. A reader of the rules can leave this
-- page out. Assumes nothing.
use Rattle.std.specs.Prelude.{◌≡◌, Bool, true, false, List, [], ℕ, ◌+◌, ◌<◌, ◌≤◌, get_or}
use Rattle.plan.specs.Limits.{farthest}
use Rattle.plan.specs.APlan.{ordinary, is, points, gap_of, records_of}
use Rattle.plan.specs.ReplyNumbers.{check_of}
use Rattle.records.specs.declared.Record.{Record}
use Rattle.plan.specs.declared.Plan.{Plan}
use Rattle.network.specs.Walks.{Walk}
use Rattle.network.specs.Passing.{Good}
use Rattle.tables.specs.Entries.{middle, nowhere}
use Rattle.rows.specs.Sheet.{SheetEdge, SheetReady}
use Rattle.vee.specs.PlanTest.{spans, projections, unset, many, most_projections, edges_of}
use Rattle.vee.specs.Walked.{spans_in, WalkReady}
use Rattle.choices.specs.Choices.{chosen}

-- a yes says that P holds, a no that it does not
pub data Told (P : Type 0) : Bool → Type 0 where
  told_yes : P → Told P true
  told_no : (P → ⊥) → Told P false

-- some walk from X to Y is at most u − d
pub record Reaches (E : ℕ → ℕ → ℕ → ℕ → Type 0) (X Y u d : ℕ) : Type 0 where
  pub up : ℕ
  pub down : ℕ
  pub walk : Walk E X Y up down
  pub short : up + d ≤ u + down

-- the edges E are good, and reach from X to Y in u − d
pub record Enough (E : ℕ → ℕ → ℕ → ℕ → Type 0) (X Y u d : ℕ) : Type 0 where
  pub good : Good E
  pub reaches : Reaches E X Y u d

-- the ordinary record r is not needed beside the records rs: they are enough in each projection
pub record Spare (rs : List Record) (r : Record) : Type 0 where
  pub is : is ordinary r ≡ true
  pub each : (i : ℕ) → i < many (spans rs)
      → Enough (edges_of rs (get_or (projections (spans rs) unset) i [])) r.a r.b (gap_of r.first).up (gap_of r.first).down

-- ---- what the functions ask and answer

-- a projection of a sheet's records; most stands for the bound as a table has it
pub record FitAsks (s w : List ℕ) (m n x y most : ℕ) : Type 0 where
  pub ready : SheetReady s w m n
  pub from : x < n
  pub to : y < n
  pub small : most < nowhere

abbrev pub EnoughRows : List ℕ → List ℕ → ℕ → ℕ → ℕ → ℕ → Type 0
EnoughRows s w m x y most = Enough (SheetEdge s w m) x y most middle

-- all of them, by their numbers
pub record AllAsks (s : List ℕ) (m n k total x y most : ℕ) : Type 0 where
  pub walk : WalkReady s unset m n (n + k) k 0
  pub counted : total ≡ many (spans_in s (n + k) k)
  pub from : x < n
  pub to : y < n
  pub small : most < nowhere

abbrev pub AllEnough : List ℕ → ℕ → ℕ → ℕ → ℕ → ℕ → ℕ → ℕ → Type 0
AllEnough s m n k total x y most = (i : ℕ) → i < total → EnoughRows s (chosen (spans_in s (n + k) k) unset i) m x y most

-- the plan p is accepted and has so many projections, and the record r is between its points and in bounds
pub record SpareReady (p : Plan) (r : Record) (total : ℕ) : Type 0 where
  pub ok : (check_of p).number ≡ 0
  pub counted : total ≡ many (spans (records_of p))
  pub few : total ≤ most_projections
  pub from : r.a < points (records_of p)
  pub to : r.b < points (records_of p)
  pub up : (gap_of r.first).up ≤ farthest
  pub down : (gap_of r.first).down ≤ farthest

-- this is asked only where r is ordinary
pub record SpareAsks (p : Plan) (r : Record) (total : ℕ) : Type 0 where
  pub ready : is ordinary r ≡ true → SpareReady p r total
