-- The walk over an event's set. Assumes nothing.
use mathlib.Core.Path.{◌≡◌}
use mathlib.Core.List.{List, [], ◌∷◌}
use Prim.Native.Nat.{ℕ, ◌<◌, ◌≤◌}
use borrow.Author.Tests.{lt-ltb, le-ltb}
use Rattle.plan.specs.Limits.{most_points}
use Rattle.kept.specs.Rooms.{done_by, all_done_by, points_of}

-- what is left gives the whole answer
module _ (rows into out ends : List ℕ) (t n : ℕ) {left : List ℕ} (kept : List ℕ) {whole : List ℕ} (so_far : all_done_by rows into out ends t n left kept ≡ whole) where
  pub set_turn : (p : ℕ) (rest : List ℕ) → left ≡ p ∷ rest → all_done_by rows into out ends t n rest (done_by rows into out ends t n p kept) ≡ whole
  unfolding all_done_by
  set_turn p rest e = rw e at so_far

  pub set_end : left ≡ [] → kept ≡ whole
  unfolding all_done_by
  set_end e = rw e at so_far

-- ---- the foreman's point

pub one_done : (rows into out ends : List ℕ) (t n p : ℕ) (kept kept' : List ℕ) → p < most_points → kept' ≡ done_by rows into out ends t n p kept
    → kept' ≡ all_done_by rows into out ends t n (points_of p) kept
unfolding all_done_by
one_done rows into out ends t n p kept kept' h e = rw (lt-ltb p most_points h) e

pub none_done : (rows into out ends : List ℕ) (t n p : ℕ) (kept : List ℕ) → most_points ≤ p → kept ≡ all_done_by rows into out ends t n (points_of p) kept
unfolding all_done_by
none_done rows into out ends t n p kept h = rw (le-ltb p most_points h)
