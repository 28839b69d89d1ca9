-- The board that an engine's room holds, as one value. Assumes nothing.
use mathlib.Core.Path.{◌≡◌}
use mathlib.Core.List.{List}
use Prim.Native.Nat.{ℕ, ◌+◌}
use native.Mathlib.Omega.{arith}
use lib.ListN.{get_or}
use Rattle.plan.specs.Limits.{most_points}
use Rattle.board.specs.declared.Board.{Board}
use Rattle.engine.specs.Takes.{TableAt, BoardIn}
use Rattle.link_numbers.proofs.Taking.{listed_end}
use Rattle.hulls.specs.Rooms.{table_in, board_in}

module _ (kept : List ℕ) where
  table_is : (at : ℕ) (t : List ℕ) → TableAt kept at t → t ≡ table_in kept at
  table_is at t x = listed_end (λ (q : ℕ). get_or kept (at + q) 0) 0 most_points most_points t (record { long = x.long; here = x.each }) (omega arith)

  pub board_is : (b : Board) → BoardIn kept b → b ≡ board_in kept
  board_is b x =
      let m = table_is _ b.minutes x.minutes in
      let n = table_is _ b.calls x.calls in
      let t = x.clock in
      let d = x.done in
      λ i. record { clock = t i; done = d i; minutes = m i; calls = n i }
