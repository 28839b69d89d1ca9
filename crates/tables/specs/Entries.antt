-- Tables as the code keeps them, in numbers of 32 bits, and what a pass does to one. A reader of the rules can leave this page
-- out. Assumes nothing.
use Rattle.std.specs.Prelude.{◌≡◌, ◌⊎◌, ◌≢◌, Bool, List, ℕ, ◌+◌, ◌*◌, ◌<◌, ◌≤◌, ltb, length, get_or, if◌then◌else◌}
use Rattle.plan.specs.Limits.{farthest}
use Rattle.tables.specs.Tables.{Table, bias, none, side, room, Passed, Closed, Within}

-- the distance v is kept as middle + v; nowhere says that no walk joins the two points, and nothing is above it
abbrev pub middle : ℕ
middle = 536870912

abbrev pub nowhere : ℕ
nowhere = 1073741824

-- what a pass adds is nowhere, or between low and high
abbrev pub low : ℕ
low = 402653184

abbrev pub high : ℕ
high = 671088640

-- what stands for nowhere in a row that is added to: with any number from low on it comes to nowhere or more
abbrev pub far : ℕ
far = 1207959552

-- the least and the greatest sum of two numbers that can be added
abbrev pub floor : ℕ
floor = 268435456

abbrev pub ceiling : ℕ
ceiling = 805306368

-- every number of a table, and every sum of a pass, is below 2 ^ 31
abbrev pub small : ℕ
small = 2147483648

-- what a number that is kept stands for in the tables of the rules
abbrev pub wide : ℕ → ℕ
wide v = if ltb v nowhere then v + 1125899369971712 else none

-- a list of numbers as a table: as it is kept, and as it is read
abbrev pub raw : List ℕ → Table
raw t x y = get_or t (x * side + y) 0

abbrev pub at : List ℕ → Table
at t x y = wide (raw t x y)

pub record Lesser (a b r : ℕ) : Type 0 where
  pub first : r ≤ a
  pub second : r ≤ b
  pub from : (r ≡ a) ⊎ (r ≡ b)

-- a number that can be added to another, or nowhere
abbrev pub Near : ℕ → Type 0
Near v = v < nowhere → (low ≤ v) × (v ≤ high)

-- r is the lesser of a and of the sum of b and c
pub record Lower (a b c r : ℕ) : Type 0 where
  pub old : r ≤ a
  pub sum : r + middle ≤ b + c
  pub from : (r ≡ a) ⊎ (r + middle ≡ b + c)

-- a table of the right length, with nothing above nowhere, nothing between ceiling and nowhere, and nothing below floor
pub record Sound (t : List ℕ) : Type 0 where
  pub long : length t ≡ room
  pub most : (q : ℕ) → q < room → get_or t q 0 ≤ nowhere
  pub least : (q : ℕ) → q < room → floor ≤ get_or t q 0
  pub gap : (q : ℕ) → q < room → get_or t q 0 < nowhere → get_or t q 0 ≤ ceiling

-- l is v, or far where v is nowhere
pub record Lifted (v l : ℕ) : Type 0 where
  pub same : v < nowhere → l ≡ v
  pub gone : nowhere ≤ v → l ≡ far

-- l is the row k of t, each number v of which became some r with R v r, and far past the points
pub record RowBy (R : ℕ → ℕ → Type 0) (n k : ℕ) (t l : List ℕ) : Type 0 where
  pub long : length l ≡ side
  pub each : (j : ℕ) → j < n → R (raw t k j) (get_or l j 0)
  pub past : (j : ℕ) → n ≤ j → j < side → get_or l j 0 ≡ far

-- l is the row k of t, lifted, and far past the points
abbrev pub LiftedRow : ℕ → ℕ → List ℕ → List ℕ → Type 0
LiftedRow = RowBy Lifted

-- the row and the column of k can be added
pub record Tame (n k : ℕ) (t : List ℕ) : Type 0 where
  pub row : (j : ℕ) → j < n → Near (raw t k j)
  pub column : (i : ℕ) → i < n → Near (raw t i k)

-- what one row of a pass asks, b being the entry at (i, k), and what it does
pub record RowReady (i b : ℕ) (l t : List ℕ) : Type 0 where
  pub sound : Sound t
  pub row : i < side
  pub wide_row : length l ≡ side
  pub first : (low ≤ b) × (b ≤ high)
  pub second : (j : ℕ) → j < side → (low ≤ get_or l j 0) × (get_or l j 0 ≤ far)
  pub third : (j : ℕ) → j < side → (get_or l j 0 ≤ high) ⊎ (get_or l j 0 ≡ far)

pub record RowDone (i b : ℕ) (l t t' : List ℕ) : Type 0 where
  pub sound : Sound t'
  pub cell : (j : ℕ) → j < side → Lower (raw t i j) b (get_or l j 0) (raw t' i j)
  pub rest : (x j : ℕ) → x ≢ i → j < side → raw t' x j ≡ raw t x j

-- the same, b being the entry at (i, k) itself, which can be nowhere
pub record StepReady (i k : ℕ) (l t : List ℕ) : Type 0 where
  pub sound : Sound t
  pub row : i < side
  pub pivot : k < side
  pub wide_row : length l ≡ side
  pub first : Near (raw t i k)
  pub second : (j : ℕ) → j < side → (low ≤ get_or l j 0) × (get_or l j 0 ≤ far)
  pub third : (j : ℕ) → j < side → (get_or l j 0 ≤ high) ⊎ (get_or l j 0 ≡ far)

pub record StepDone (i k : ℕ) (l t t' : List ℕ) : Type 0 where
  pub made : raw t i k < nowhere → RowDone i (raw t i k) l t t'
  pub skipped : nowhere ≤ raw t i k → t' ≡ t

-- what a pass asks, and what it does
pub record PassReady (n k : ℕ) (t : List ℕ) : Type 0 where
  pub sound : Sound t
  pub few : n ≤ side
  pub pivot : k < n
  pub tame : Tame n k t

pub record PassDone (n k : ℕ) (t t' : List ℕ) : Type 0 where
  pub sound : Sound t'
  pub passed : Passed n k (at t) (at t')

-- no entry of n points is further below zero than depth
abbrev pub depth : ℕ
depth = 268435456

abbrev pub Shallow : ℕ → Table → Type 0
Shallow n f = (x y : ℕ) → x < n → y < n → f x y < none → bias ≤ f x y + depth

-- what closing asks, no entry further from zero than an edge can be and no point above zero from itself to itself; and what it does
pub record CloseReady (n : ℕ) (t : List ℕ) : Type 0 where
  pub sound : Sound t
  pub few : n ≤ side
  pub self : (x : ℕ) → x < n → at t x x ≤ bias
  pub within : Within farthest n (at t)

pub record CloseDone (n : ℕ) (t t' : List ℕ) (r : Bool) : Type 0 where
  pub sound : Sound t'
  pub closed : Closed n (at t) r (at t')
