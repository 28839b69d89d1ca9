-- What the functions that draw a sheet's tables ask and do. A reader of the rules can leave this page out. Assumes nothing.
use Rattle.std.specs.Prelude.{◌≡◌, Bool, true, false, List, ℕ, min, ◌<◌, ◌≤◌}
use Rattle.network.specs.Passing.{Cycle, Consistent}
use Rattle.tables.specs.declared.table.Part.{Part}
use Rattle.plan.specs.Limits.{farthest}
use Rattle.tables.specs.Tables.{side}
use Rattle.tables.specs.Entries.{at, Sound, Shallow}
use Rattle.tables.specs.Steps.{takes_of, OfferedOf, PartOf}
use Rattle.tables.specs.Distances.{Distances}
use Rattle.rows.specs.Sheet.{SheetEdge, SheetReady, Drawing}

-- what one row's offers ask, and what they do
pub record PutReady (k i j f g p : ℕ) (t : List ℕ) : Type 0 where
  pub sound : Sound t
  pub from : 1 < k → i < side
  pub to : 1 < k → j < side
  pub first : 1 < k → f ≤ farthest
  pub second : 1 < k → g ≤ farthest
  pub lasts : p ≤ farthest

pub data Put (b : Part) (k i j f g p : ℕ) (t t' : List ℕ) : Type 0 where
  ordinary_put : k ≡ 3 → OfferedOf (takes_of b f g) i j f g t t' → Put b k i j f g p t t'
  wait_put : k ≡ 4 → OfferedOf (takes_of b 0 (min f p)) i j 0 (min f p) t t' → Put b k i j f g p t t'
  link_put : {t'' : List ℕ} → k ≡ 2 → OfferedOf (takes_of b p 0) i j p 0 t t'' → OfferedOf (takes_of b 0 p) j i 0 p t'' t' → Put b k i j f g p t t'
  nothing_put : (k ≡ 2 → ⊥) → (k ≡ 3 → ⊥) → (k ≡ 4 → ⊥) → t' ≡ t → Put b k i j f g p t t'

-- the table of the rows below q, and row q is there
pub record LayReady (b : Part) (s w : List ℕ) (n q : ℕ) (t : List ℕ) : Type 0 where
  pub m : ℕ
  pub ready : SheetReady s w m n
  pub below : q < m
  pub so_far : Drawing b s w n q t

-- the distances over the edges of a part, none of them far below zero, or a cycle of negative sum
abbrev pub Verdict : (ℕ → ℕ → ℕ → ℕ → Type 0) → ℕ → List ℕ → Bool → Type 0
Verdict E n t true = Distances E n (at t) × Consistent E × Shallow n (at t)
Verdict E n t false = Cycle E

pub record Filled (b : Part) (s w : List ℕ) (m n : ℕ) (t : List ℕ) (r : Bool) : Type 0 where
  pub sound : Sound t
  pub verdict : Verdict (PartOf b (SheetEdge s w m)) n t r
