-- Document 01, "A plan": what a plan says of its points, whatever its form, and the edges of a projection. A weight is a
-- pair of natural numbers, up and down, and stands for up − down. Assumes nothing.
use Rattle.std.specs.Prelude.{ℕ, min, ◌≤◌}

-- the records of a plan: (X, d, Y) with d as up and down, Y − X ≤ up − down; the link (A, x, y, C); the wait (B, C, w)
pub record Net : Type 1 where
  pub Ordinary : ℕ → ℕ → ℕ → ℕ → Type 0
  pub Link : ℕ → ℕ → ℕ → ℕ → Type 0
  pub Wait : ℕ → ℕ → ℕ → Type 0

-- a projection picks for each link a whole duration from x to y; ω has it by the link's C
pub record InBounds (N : Net) (ω : ℕ → ℕ) : Type 0 where
  pub within : {A x y C : ℕ} → N.Link A x y C → (x ≤ ω C) × (ω C ≤ y)

-- the edges of a projection: the ordinary records, A to C with the duration p, C to A with −p, and each wait as B to A
-- with −min(w, p)
pub data Edge (N : Net) (ω : ℕ → ℕ) : ℕ → ℕ → ℕ → ℕ → Type 0 where
  ordinary : {X u d Y : ℕ} → N.Ordinary X u d Y → Edge N ω X Y u d
  there : {A x y C : ℕ} → N.Link A x y C → Edge N ω A C (ω C) 0
  back : {A x y C : ℕ} → N.Link A x y C → Edge N ω C A 0 (ω C)
  wait : {A x y B C w : ℕ} → N.Link A x y C → N.Wait B C w → Edge N ω B A 0 (min w (ω C))
