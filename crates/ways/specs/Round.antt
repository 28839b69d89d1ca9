-- What the functions that find a cycle of negative sum ask and do. A reader of the rules can leave this page out. Assumes nothing.
use Rattle.std.specs.Prelude.{◌≡◌, Bool, true, false, ◌&&◌, List, ℕ, ◌+◌, ◌/◌, ◌<◌, ◌≤◌, ltb, length}
use Rattle.numbers.specs.Fits.{All}
use Rattle.network.specs.Walks.{Walk}
use Rattle.network.specs.Passing.{Cycle, Consistent}
use Rattle.tables.specs.declared.table.Part.TheVariants.{All as Every}
use Rattle.tables.specs.Tables.{side}
use Rattle.tables.specs.Entries.{raw, middle, nowhere}
use Rattle.rows.specs.Sheet.{SheetEdge, SheetReady, kind_at}
use Rattle.rows.specs.Filled.{Filled}
use Rattle.ways.specs.declared.steps.Step.{Step}
use Rattle.ways.specs.declared.steps.Way.{Way}
use Rattle.ways.specs.Steps.{Leads, ups, downs, way_as, step_at, is_edge, StepIn}

-- by the table t some way leads back from the step's end to its start, and comes to less than zero with it
abbrev pub closes_by : List ℕ → Step → Bool
closes_by t e = ltb (raw t e.to e.from) nowhere && ltb (raw t e.to e.from + e.up) (middle + e.down)

-- no walk over the edges E does
pub record Open (E : ℕ → ℕ → ℕ → ℕ → Type 0) (e : Step) : Type 0 where
  pub round : {u d : ℕ} → Walk E e.to e.from u d → e.down + d ≤ e.up + u

-- the rows before that of edge k have no cycle of negative sum
pub record ClosingAsks (s w : List ℕ) (n k : ℕ) : Type 0 where
  pub m : ℕ
  pub ready : SheetReady s w m n
  pub below : k / 2 < m
  pub consistent : Consistent (SheetEdge s w (k / 2))

-- edge k closes one with them; or it is none, or does not
pub record FinishAsks (s w : List ℕ) (n k : ℕ) (t : List ℕ) : Type 0 where
  pub asks : ClosingAsks s w n k
  pub some : is_edge (kind_at s (k / 2)) ≡ true
  pub filled : Filled Every s w (k / 2) n t true
  pub closes : closes_by t (step_at s w k) ≡ true

pub record Closing (s w : List ℕ) (n k : ℕ) (t : List ℕ) (r : Bool) : Type 0 where
  pub closed : r ≡ true → FinishAsks s w n k t
  pub still : r ≡ false → is_edge (kind_at s (k / 2)) ≡ true → Open (SheetEdge s w (k / 2)) (step_at s w k)

pub record RoundAsks (s w : List ℕ) (m n : ℕ) : Type 0 where
  pub ready : SheetReady s w m n
  pub cycle : Cycle (SheetEdge s w m)

-- the steps of r lead from some point back to it over edges of the first m rows, and come to less than zero
pub record RoundOf (s w : List ℕ) (m : ℕ) (r : Way) : Type 0 where
  pub steps : List Step
  pub is : r ≡ way_as steps
  pub few : length steps ≤ side
  pub each : All (StepIn s w m) steps
  pub at : ℕ
  pub leads : Leads steps at at
  pub below : ups steps < downs steps
