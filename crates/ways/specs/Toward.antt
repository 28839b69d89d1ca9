-- What the functions that find a shortest way ask and do. A reader of the rules can leave this page out. Assumes nothing.
use Rattle.std.specs.Prelude.{◌≡◌, Bool, true, false, ◌&&◌, List, [], ◌∷◌, ℕ, ◌+◌, ◌*◌, ◌/◌, ◌<◌, ◌≤◌, eqb, ltb, length, get_or}
use Rattle.numbers.specs.Fits.{All}
use Rattle.plan.specs.Limits.{farthest}
use Rattle.tables.specs.declared.table.Part.TheVariants.{All as Every}
use Rattle.tables.specs.Tables.{side}
use Rattle.tables.specs.Entries.{raw, middle, nowhere}
use Rattle.rows.specs.Sheet.{SheetReady, kind_at}
use Rattle.rows.specs.Filled.{Filled}
use Rattle.ways.specs.declared.steps.Step.{Step}
use Rattle.ways.specs.declared.steps.Way.{Way}
use Rattle.ways.specs.Steps.{Leads, ups, downs, no_step, way_as, step_at, is_edge, StepIn}

-- a step between points, of no large length
pub record ExtendAsks (e : Step) (y : ℕ) : Type 0 where
  pub from : e.from < side
  pub to : e.to < side
  pub end : y < side
  pub up : e.up ≤ farthest
  pub down : e.down ≤ farthest

-- the step leads from a point that is not reached to one that is, and a way to y by it is as short as any
abbrev pub extends_by : List ℕ → List ℕ → ℕ → Step → Bool
extends_by t o y e =
    eqb (get_or o e.from 0) 0 && (ltb 0 (get_or o e.to 0) && eqb (raw t e.from y + e.down) (raw t e.to y + e.up))

-- edge k is one, and does
pub record TakeAsks (s w : List ℕ) (k y : ℕ) : Type 0 where
  pub m : ℕ
  pub n : ℕ
  pub ready : SheetReady s w m n
  pub below : k / 2 < m
  pub end : y < side

abbrev pub takes_by : List ℕ → List ℕ → List ℕ → List ℕ → ℕ → ℕ → Bool
takes_by s w t o y k = is_edge (kind_at s (k / 2)) && extends_by t o y (step_at s w k)

pub record SearchAsks (s w : List ℕ) (m y : ℕ) : Type 0 where
  pub n : ℕ
  pub ready : SheetReady s w m n
  pub end : y < side

-- edge k is the first that does, or none does
pub record Searched (s w : List ℕ) (m : ℕ) (t o : List ℕ) (y k : ℕ) : Type 0 where
  pub here : k < 2 * m → takes_by s w t o y k ≡ true
  pub none : 2 * m ≤ k → (j : ℕ) → j < 2 * m → takes_by s w t o y j ≡ false

-- the table t has the distances over the edges of the first m rows
pub record ReachAsks (s w : List ℕ) (m n : ℕ) (t : List ℕ) (y : ℕ) : Type 0 where
  pub ready : SheetReady s w m n
  pub filled : Filled Every s w m n t true
  pub end : y < n

-- each point that is reached goes on to one that was reached before
pub record Linked (o : List ℕ) (next : List Step) : Type 0 where
  pub long : length o ≡ side
  pub wide : length next ≡ side
  pub most : (X : ℕ) → get_or o X 0 ≤ side
  pub to : (X : ℕ) → 1 < get_or o X 0 → (get_or next X no_step).to < side
  pub some : (X : ℕ) → 1 < get_or o X 0 → 0 < get_or o (get_or next X no_step).to 0
  pub before : (X : ℕ) → 1 < get_or o X 0 → get_or o (get_or next X no_step).to 0 < get_or o X 0

-- the step e goes on from the point X, and no way from there to y is shorter than by it
pub record Onward (s w : List ℕ) (m : ℕ) (t : List ℕ) (y X : ℕ) (e : Step) : Type 0 where
  pub step : StepIn s w m e
  pub from : X ≡ e.from
  pub tight : raw t X y + e.down ≡ raw t e.to y + e.up

-- each point that is reached goes on by such a step, and only y is the first
pub record Ordered (s w : List ℕ) (m : ℕ) (t : List ℕ) (y : ℕ) (o : List ℕ) (next : List Step) : Type 0 where
  pub linked : Linked o next
  pub first : get_or o y 0 ≡ 1
  pub only : (X : ℕ) → get_or o X 0 ≡ 1 → X ≡ y
  pub each : (X : ℕ) → 1 < get_or o X 0 → Onward s w m t y X (get_or next X no_step)

-- and every point that is joined to y is reached
pub record Reached (s w : List ℕ) (m n : ℕ) (t : List ℕ) (y : ℕ) (o : List ℕ) (next : List Step) : Type 0 where
  pub ordered : Ordered s w m t y o next
  pub all : (X : ℕ) → X < n → raw t X y < nowhere → 0 < get_or o X 0

-- what the steps are followed by, from a point that was reached
pub record FollowAsks (o : List ℕ) (next : List Step) (x : ℕ) : Type 0 where
  pub linked : Linked o next
  pub start : x < side
  pub some : 0 < get_or o x 0

-- the steps es are those by which the points go on, from X to Z
unfoldable pub Trail : List ℕ → List Step → List Step → ℕ → ℕ → Type 0
Trail o next [] X Z = X ≡ Z
Trail o next (e ∷ es) X Z = (1 < get_or o X 0) × (e ≡ get_or next X no_step) × Trail o next es e.to Z

-- they are followed to the point that was reached first
pub record Followed (o : List ℕ) (next : List Step) (x : ℕ) (r : Way) : Type 0 where
  pub steps : List Step
  pub is : r ≡ way_as steps
  pub few : length steps < side
  pub last : ℕ
  pub trail : Trail o next steps x last
  pub ends : get_or o last 0 ≡ 1

pub record WayAsks (s w : List ℕ) (m n : ℕ) (t : List ℕ) (x y : ℕ) : Type 0 where
  pub reach : ReachAsks s w m n t y
  pub start : x < n
  pub joined : raw t x y < nowhere

-- the steps of r lead from x to y over edges of the first m rows, and come to v, as a table has it
pub record WayOf (s w : List ℕ) (m v x y : ℕ) (r : Way) : Type 0 where
  pub steps : List Step
  pub is : r ≡ way_as steps
  pub few : length steps < side
  pub each : All (StepIn s w m) steps
  pub leads : Leads steps x y
  pub sum : v + downs steps ≡ middle + ups steps
