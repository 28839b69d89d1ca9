-- Document 01, "A plan" and "Verdict and plan test": when a bound between two points is kept, and when its points are in the
-- plan. Assumes nothing.
use Rattle.std.specs.Prelude.{Bool, ◌&&◌, ℕ, ◌+◌, leb, ltb, ℤ}
use Rattle.plan.specs.APlan.{gap_of}

-- Y − X ≤ d, for the minutes X and Y of two points
abbrev pub bound_kept : ℕ → ℤ → ℕ → Bool
bound_kept x d y = leb (y + (gap_of d).down) (x + (gap_of d).up)

-- two points are in a plan of n points
abbrev pub both_in : ℕ → ℕ → ℕ → Bool
both_in n x y = ltb x n && ltb y n
