-- Tables of ways: walks of negative edges and then non-negative ones. What a round over the negative edges does to one, and
-- what the functions that make the rounds ask and do. A reader of the rules can leave this page out. Assumes nothing.
use Rattle.std.specs.Prelude.{◌≡◌, ◌⊎◌, ◌≢◌, List, [], ◌∷◌, ℕ, min, ◌+◌, ◌-◌, ◌<◌, ◌≤◌, eqb, length, get_or, if◌then◌else◌}
use Rattle.network.specs.Walks.{Walk, NonNegative, Vee}
use Rattle.tables.specs.Tables.{Table, bias, none, side, room}
use Rattle.tables.specs.Entries.{nowhere, far, small, raw, at, Lesser, RowBy, Shallow}
use Rattle.tables.specs.Distances.{Distances}
use Rattle.rows.specs.Sheet.{SheetReady, SheetEdge, Laid}
use Rattle.rows.specs.declared.sheet.Row.{Row}
use Rattle.rounds.specs.declared.Fall.{Fall}

-- r is the lesser of a and of c less drop
pub record Shorter (a c drop r : ℕ) : Type 0 where
  pub low : r ≤ a
  pub via : c < none → r + drop ≤ c
  pub from : (r ≡ a) ⊎ ((c < none) × (r + drop ≡ c))

-- g is f with row x lowered by row z less drop
pub record Eased (n x z drop : ℕ) (f g : Table) : Type 0 where
  pub cell : (j : ℕ) → j < n → Shorter (f x j) (f z j) drop (g x j)
  pub rest : (y j : ℕ) → y ≢ x → j < n → g y j ≡ f y j

-- the sum of all numbers
unfoldable pub sum : List ℕ → ℕ
sum [] = 0
sum (a ∷ t) = a + sum t

-- a table of the right length with nothing above nowhere
pub record Capped (t : List ℕ) : Type 0 where
  pub long : length t ≡ room
  pub most : (q : ℕ) → q < room → get_or t q 0 ≤ nowhere

-- no number of t' is above that of t
abbrev pub Down : List ℕ → List ℕ → Type 0
Down t t' = (q : ℕ) → q < room → get_or t' q 0 ≤ get_or t q 0

-- l is v less drop, or far where v is nowhere
pub record Dropped (v drop l : ℕ) : Type 0 where
  pub same : v < nowhere → l + drop ≡ v
  pub gone : nowhere ≤ v → l ≡ far

-- l is the row z of t, less drop, and far past the points
abbrev pub DroppedRow : ℕ → ℕ → ℕ → List ℕ → List ℕ → Type 0
DroppedRow n z drop = RowBy (λ v. Dropped v drop) n z

-- what lowering row x of t by the row l asks, and what it does
pub record RowReady (x : ℕ) (l t : List ℕ) : Type 0 where
  pub capped : Capped t
  pub row : x < side
  pub long : length l ≡ side
  pub small : (j : ℕ) → j < side → get_or l j 0 < small

pub record RowLowered (x : ℕ) (l t t' : List ℕ) : Type 0 where
  pub capped : Capped t'
  pub done : (y : ℕ) → y < side → Lesser (get_or l y 0) (raw t x y) (raw t' x y)
  pub rest : (v y : ℕ) → v ≢ x → y < side → raw t' v y ≡ raw t v y
  pub down : Down t t'

pub record LowerReady (n x z drop : ℕ) (t : List ℕ) : Type 0 where
  pub capped : Capped t
  pub few : n ≤ side
  pub row : x < n
  pub other : z < n
  pub enough : (j : ℕ) → j < n → raw t z j < nowhere → drop ≤ raw t z j

pub record LowerDone (n x z drop : ℕ) (t t' : List ℕ) : Type 0 where
  pub capped : Capped t'
  pub eased : Eased n x z drop (at t) (at t')
  pub down : Down t t'

-- the negative edge of a row, at the duration p of its link: from, to, and how far below zero; 0 where it has none
unfoldable pub fall_of : Row → ℕ → Fall
fall_of r p =
    if eqb r.kind 3 then record { from = r.from; to = r.to; drop = r.second - r.first }
    else (if eqb r.kind 4 then record { from = r.from; to = r.to; drop = min r.first p }
    else (if eqb r.kind 2 then record { from = r.to; to = r.from; drop = p }
    else record { from = 0; to = 0; drop = 0 }))

-- v is the weight of a way from X to Y
pub record Reached (E : ℕ → ℕ → ℕ → ℕ → Type 0) (X Y v : ℕ) : Type 0 where
  pub up : ℕ
  pub down : ℕ
  pub walk : Vee E X Y up down
  pub weight : v + down ≡ bias + up

-- v has weights of ways, and none that a walk of non-negative edges undercuts; the distances are known and not far from zero
pub record Ways (E : ℕ → ℕ → ℕ → ℕ → Type 0) (n : ℕ) (v : Table) : Type 0 where
  pub real : (X Y : ℕ) → X < n → Y < n → v X Y < none → Reached E X Y (v X Y)
  pub flat : (X Y u d : ℕ) → X < n → Walk (NonNegative E) X Y u d → (v X Y < none) × (v X Y + d ≤ bias + u)
  pub distance : Table
  pub distances : Distances E n distance
  pub near : Shallow n distance

-- the edges E lower no row of v by another
abbrev pub Still : (ℕ → ℕ → ℕ → ℕ → Type 0) → ℕ → Table → Table → Type 0
Still E n f g = (X Z u d j : ℕ) → E X Z u d → u < d → j < n → f Z j < none → g X j + d ≤ f Z j + u

-- v has the least weights of ways
pub record LeastWays (E : ℕ → ℕ → ℕ → ℕ → Type 0) (n : ℕ) (v : Table) : Type 0 where
  pub ways : Ways E n v
  pub still : Still E n v v

-- what a round asks of a sheet's table, what row q does to it, and what the rows below q do
pub record RoundReady (s w : List ℕ) (m n : ℕ) (t : List ℕ) : Type 0 where
  pub ready : SheetReady s w m n
  pub capped : Capped t
  pub ways : Ways (SheetEdge s w m) n (at t)

pub record RowDone (s w : List ℕ) (m n q : ℕ) (t t' : List ℕ) : Type 0 where
  pub ready : RoundReady s w m n t'
  pub lower : (X Y : ℕ) → X < n → Y < n → at t' X Y ≤ at t X Y
  pub still : Still (Laid s w q) n (at t) (at t')
  pub down : Down t t'

pub record Rounded (s w : List ℕ) (m n q : ℕ) (t t' : List ℕ) : Type 0 where
  pub ready : RoundReady s w m n t'
  pub lower : (X Y : ℕ) → X < n → Y < n → at t' X Y ≤ at t X Y
  pub still : Still (SheetEdge s w q) n (at t) (at t')
  pub down : Down t t'

pub record Settled (s w : List ℕ) (m n : ℕ) (t : List ℕ) : Type 0 where
  pub least : LeastWays (SheetEdge s w m) n (at t)
