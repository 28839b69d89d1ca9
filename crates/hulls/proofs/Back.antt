-- The board that is read from an engine's room is the one that it holds. Assumes nothing.
use mathlib.Core.Path.{◌≡◌, refl, ◌∙◌}
use mathlib.Core.List.{List}
use Prim.Native.Nat.{ℕ, ◌+◌}
use native.Mathlib.Omega.{arith}
use lib.ListN.{get_or, length-map}
use Rattle.points.specs.Sets.{from}
use Rattle.plan.specs.Limits.{most_points}
use Rattle.engine.specs.Takes.{TableAt, BoardIn}
use Rattle.link_numbers.proofs.Taking.{from_long, map_at}
use Rattle.hulls.specs.Rooms.{table_in, board_in}
pub use Rattle.link_numbers.proofs.Back.{links_back}

table_there : (kept : List ℕ) (at : ℕ) → TableAt kept at (table_in kept at)
table_there kept at =
    record {
      long = length-map (from 0 most_points) _ ∙ from_long most_points 0;
      each = λ q h. let z : 0 + q ≡ q = omega arith in rw z at (map_at (λ (k : ℕ). get_or kept (at + k) 0) 0 most_points 0 q h);
    }

pub board_there : (kept : List ℕ) → BoardIn kept (board_in kept)
board_there kept = record { clock = refl; done = refl; minutes = table_there kept _; calls = table_there kept _ }
