-- A board that some points are marked on, part by part. Assumes nothing.
use mathlib.Core.Path.{◌≡◌, refl}
use mathlib.Core.List.{List, [], ◌∷◌}
use Prim.Native.Nat.{ℕ}
use lib.ListN.{set}
use Rattle.points.specs.Sets.{with_of}
use Rattle.taking.specs.Steps.{set_all, with_all}
use Rattle.board.specs.Events.{mark_all}
use Rattle.board.specs.declared.Board.{Board}

pub marks_are : (t n : ℕ) (ps : List ℕ) (b : Board)
    → (record { clock = b.clock; done = with_all ps b.done; minutes = set_all t ps b.minutes; calls = set_all n ps b.calls }) ≡ mark_all t n ps b
unfolding mark_all
marks_are t n [] b = refl
marks_are t n (p ∷ ps) b = marks_are t n ps (record { clock = b.clock; done = with_of b.done p; minutes = set b.minutes p t; calls = set b.calls p n })
