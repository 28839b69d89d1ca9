-- What the functions that look for the first bad pair answer, by the distances d over all edges and the least ways v, those
-- of negative edges and then non-negative ones. A reader of the rules can leave this page out. Assumes nothing.
use Rattle.std.specs.Prelude.{ℕ, ◌<◌, ◌≤◌, Option, None, Some}
use Rattle.tables.specs.Tables.{Table, none}

-- a way from X to Y is as short as any walk, or no walk joins the two; or the pair is trouble
abbrev pub Kept : Table → Table → ℕ → ℕ → Type 0
Kept d v X Y = d X Y < none → v X Y ≤ d X Y

abbrev pub Undercut : Table → Table → ℕ → ℕ → Type 0
Undercut d v X Y = (d X Y < none) × (d X Y < v X Y)

-- row X: the first Y that is trouble
pub data InRow (n : ℕ) (d v : Table) (X : ℕ) : Option ℕ → Type 0 where
  none_here : ((Y : ℕ) → Y < n → Kept d v X Y) → InRow n d v X None
  here : {y : ℕ} → y < n → ((Y : ℕ) → Y < y → Kept d v X Y) → Undercut d v X y → InRow n d v X (Some y)

-- the first pair that is trouble, X slowest
pub data FirstPair (n : ℕ) (Ok Trouble : ℕ → ℕ → Type 0) : Option (ℕ × ℕ) → Type 0 where
  no_pair : ((X Y : ℕ) → X < n → Y < n → Ok X Y) → FirstPair n Ok Trouble None
  pair : {X Y : ℕ} → X < n → Y < n → ((X' Y' : ℕ) → X' < X → Y' < n → Ok X' Y') → ((Y' : ℕ) → Y' < Y → Ok X Y') → Trouble X Y → FirstPair n Ok Trouble (Some (X, Y))
