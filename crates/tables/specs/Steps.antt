-- What the functions on tables ask and do. A reader of the rules can leave this page out: the open function's contract
-- does not cite it. Assumes nothing.
use Rattle.std.specs.Prelude.{◌≡◌, ◌⊎◌, ◌≢◌, Bool, true, false, List, ℕ, ◌+◌, ◌*◌, ◌<◌, ◌≤◌, ltb, leb, get_or}
use Rattle.tables.specs.declared.table.Part.{Part}
use Rattle.tables.specs.declared.table.Part.TheVariants.{All, Falling, Rising}
use Rattle.tables.specs.Tables.{bias, none, side}
use Rattle.tables.specs.Entries.{at, Sound}
use Rattle.plan.specs.Limits.{farthest}

-- what an offer asks, and what it does: t' is t with the weight u − d offered at (i, j)
pub record OfferReady (i j u d : ℕ) (t : List ℕ) : Type 0 where
  pub sound : Sound t
  pub from : i < side
  pub to : j < side
  pub up : u ≤ farthest
  pub down : d ≤ farthest

pub record Offered (i j u d : ℕ) (t t' : List ℕ) : Type 0 where
  pub sound : Sound t'
  pub low : at t' i j ≤ at t i j
  pub via : at t' i j + d ≤ bias + u
  pub from : (at t' i j ≡ at t i j) ⊎ (at t' i j + d ≡ bias + u)
  pub rest : (q : ℕ) → q ≢ i * side + j → get_or t' q 0 ≡ get_or t q 0

-- the edges that a table is of, by their weight
abbrev pub takes_of : Part → ℕ → ℕ → Bool
takes_of All u d = true
takes_of Falling u d = ltb u d
takes_of Rising u d = leb d u

-- the edges of a part
pub record PartOf (b : Part) (E : ℕ → ℕ → ℕ → ℕ → Type 0) (X Y u d : ℕ) : Type 0 where
  pub edge : E X Y u d
  pub taken : takes_of b u d ≡ true

-- an offer that is made, or not
abbrev pub Offers : Bool → ℕ → ℕ → ℕ → ℕ → List ℕ → List ℕ → Type 0
Offers true i j u d t t' = Offered i j u d t t'
Offers false i j u d t t' = t' ≡ t

pub record OfferedOf (b : Bool) (i j u d : ℕ) (t t' : List ℕ) : Type 0 where
  pub sound : Sound t'
  pub does : Offers b i j u d t t'

-- a table without edges
pub record Begun (t : List ℕ) : Type 0 where
  pub sound : Sound t
  pub self : (x : ℕ) → x < side → at t x x ≡ bias
  pub other : (x y : ℕ) → x < side → y < side → x ≢ y → at t x y ≡ none
