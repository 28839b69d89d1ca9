-- What the functions that explain a projection of a sheet's records ask and do. A reader of the rules can leave this page out. Assumes
-- nothing.
use Rattle.std.specs.Prelude.{◌≡◌, List, ℕ, ◌+◌, ◌<◌, ◌≤◌, length, get_or, take, Option, None, Some}
use Rattle.numbers.specs.Fits.{All}
use Rattle.plan.specs.Limits.{farthest}
use Rattle.network.specs.Walks.{Walk, Vee}
use Rattle.network.specs.Passing.{Joined, Cycle, Consistent}
use Rattle.tables.specs.Tables.{side}
use Rattle.rows.specs.Sheet.{SheetEdge, SheetReady}
use Rattle.lengths.specs.declared.Length.{Length}
use Rattle.lengths.specs.Lengths.{length_of, Least}
use Rattle.ways.specs.declared.steps.Step.{Step}
use Rattle.ways.specs.declared.steps.Way.{Way}
use Rattle.ways.specs.Steps.{Leads, ups, downs, no_step, way_as, StepIn}
use Rattle.explained.specs.declared.drives.Drive.{Drive}
use Rattle.explained.specs.declared.reasons.Why.{Why}
use Rattle.explained.specs.Drives.{drives_as, drives_from, DriveAsks}

-- the steps of a way
abbrev pub steps_of : Way → List Step
steps_of r = take r.count r.steps

-- its steps are there, and of no large length
pub record SumAsks (count : ℕ) (steps : List Step) : Type 0 where
  pub few : count ≤ side
  pub long : length steps ≡ side
  pub up : (k : ℕ) → k < count → (get_or steps k no_step).up ≤ farthest
  pub down : (k : ℕ) → k < count → (get_or steps k no_step).down ≤ farthest

-- why a projection fails: its drives, the shortest length and the best allowed, and the steps with their sum
abbrev pub why_as : List Drive → Option Length → Option Length → List Step → Why
why_as ds l a es = record { drives = drives_as ds; shortest = l; allowed = a; way = way_as es; sum = Some (length_of (ups es) (downs es)) }

-- the points are joined, in a projection that has no cycle
pub record PairIn (s w : List ℕ) (m n x y : ℕ) : Type 0 where
  pub ready : SheetReady s w m n
  pub consistent : Consistent (SheetEdge s w m)
  pub joined : Joined (SheetEdge s w m) x y
  pub from : x < n
  pub to : y < n
  pub drives : DriveAsks s w m

pub record PairShown (s w : List ℕ) (m x y : ℕ) (r : Why) : Type 0 where
  pub steps : List Step
  pub best : Option Length
  pub is : r ≡ why_as (drives_from s w 0 m) (Some (length_of (ups steps) (downs steps))) best steps
  pub each : All (StepIn s w m) steps
  pub leads : Leads steps x y
  pub least : (u d : ℕ) → Walk (SheetEdge s w m) x y u d → ups steps + d ≤ u + downs steps
  pub allowed : Least (Vee (SheetEdge s w m) x y) best

-- the projection has a cycle
pub record RoundIn (s w : List ℕ) (m n : ℕ) : Type 0 where
  pub ready : SheetReady s w m n
  pub cycle : Cycle (SheetEdge s w m)
  pub drives : DriveAsks s w m

pub record RoundShown (s w : List ℕ) (m : ℕ) (r : Why) : Type 0 where
  pub steps : List Step
  pub is : r ≡ why_as (drives_from s w 0 m) None None steps
  pub each : All (StepIn s w m) steps
  pub at : ℕ
  pub leads : Leads steps at at
  pub below : ups steps < downs steps
