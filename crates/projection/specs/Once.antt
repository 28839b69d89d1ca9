-- One round over the negative edges, by the distances themselves: what the functions that make it ask and do. A reader of the rules can
-- leave this page out. Assumes nothing.
use Rattle.std.specs.Prelude.{◌≡◌, ◌⊎◌, List, ℕ, ◌+◌, ◌<◌}
use Rattle.tables.specs.Tables.{Table, none}
use Rattle.tables.specs.Entries.{at}
use Rattle.rows.specs.Sheet.{SheetEdge}
use Rattle.projection.specs.Findings.{JudgeReady}
use Rattle.rounds.specs.Ways.{Capped}

-- v is the weight of a negative edge from X and then the distance f from there to Y
pub record Fallen (E : ℕ → ℕ → ℕ → ℕ → Type 0) (f : Table) (X Y v : ℕ) : Type 0 where
  pub by : ℕ
  pub up : ℕ
  pub down : ℕ
  pub edge : E X by up down
  pub below : up < down
  pub there : f by Y < none
  pub weight : v + down ≡ f by Y + up

-- the table a has the distances of a sheet's projection, and t is one to be lowered by them
pub record OnceReady (s w : List ℕ) (m n : ℕ) (a t : List ℕ) : Type 0 where
  pub judge : JudgeReady s w m n a
  pub capped : Capped t

-- each number of t' is that of t, or in row x that of row z of a less drop
pub record FellBy (n x z drop : ℕ) (a t t' : List ℕ) : Type 0 where
  pub capped : Capped t'
  pub from : (X Y : ℕ) → X < n → Y < n → (at t' X Y ≡ at t X Y) ⊎ ((X ≡ x) × (at a z Y < none) × (at t' X Y + drop ≡ at a z Y))

-- each number of t' is that of t, or that of a negative edge and then a distance
pub record OnceDone (s w : List ℕ) (m n : ℕ) (a t t' : List ℕ) : Type 0 where
  pub capped : Capped t'
  pub from : (X Y : ℕ) → X < n → Y < n → (at t' X Y ≡ at t X Y) ⊎ Fallen (SheetEdge s w m) (at a) X Y (at t' X Y)
