-- Tables of distances, and what closing one does: a pass for each point, after which each entry is the better of what it
-- was and of the way by that point. A relation between tables, so that whatever closes a table is right for one reason.
-- Assumes nothing.
use Rattle.std.specs.Prelude.{◌≡◌, ◌⊎◌, Bool, true, false, ℕ, ◌+◌, ◌*◌, ◌<◌, ◌≤◌}
use Rattle.plan.specs.Limits.{most_points}

-- a table has a number for each two points
abbrev pub Table : Type 0
Table = ℕ → ℕ → ℕ

-- the distance v is stored as bias + v, and what is at least none says that no walk joins the two
abbrev pub bias : ℕ
bias = 1125899906842624

abbrev pub none : ℕ
none = 4611686018427387904

-- half of bias: two entries that are at least this add up to at least bias
abbrev pub half : ℕ
half = 562949953421312

-- a table that is kept has a row for each point that a plan can have
abbrev pub side : ℕ
side = most_points

abbrev pub room : ℕ
room = side * side

-- r is the better of a and of the way by b and then c
pub record Best (a b c r : ℕ) : Type 0 where
  pub low : r ≤ a
  pub via : b < none → c < none → r + bias ≤ b + c
  pub from : (r ≡ a) ⊎ ((b < none) × (c < none) × (r + bias ≡ b + c))

-- g is f after the pass at the point k of n, all entries read as they were before it
pub record Passed (n k : ℕ) (f g : Table) : Type 0 where
  pub cell : (x y : ℕ) → x < n → y < n → Best (f x y) (f x k) (f k y) (g x y)

-- g is f after the passes at the points below k, none of which was below zero from itself to itself
pub data Closing (n : ℕ) (f : Table) : ℕ → Table → Type 0 where
  first : Closing n f 0 f
  next : {k : ℕ} {g h : Table} → Closing n f k g → k < n → bias ≤ g k k → Passed n k g h → Closing n f (k + 1) h

-- f is closed to g, and no point is below zero from itself to itself; or some point is
pub data Closed (n : ℕ) (f : Table) : Bool → Table → Type 0 where
  calm : {g : Table} → Closing n f n g → ((x : ℕ) → x < n → bias ≤ g x x) → Closed n f true g
  below : {k x : ℕ} {g : Table} → Closing n f k g → x < n → g x x < bias → Closed n f false g

-- each entry of n points that is there is within w of bias
abbrev pub Within : ℕ → ℕ → Table → Type 0
Within w n f = (x y : ℕ) → x < n → y < n → f x y < none → (bias ≤ f x y + w) × (f x y ≤ bias + w)

-- each is at least half
abbrev pub Near : ℕ → Table → Type 0
Near n f = (x y : ℕ) → x < n → y < n → f x y < none → half ≤ f x y
