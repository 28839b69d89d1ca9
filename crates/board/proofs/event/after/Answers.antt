-- `board::event::after` meets its contract. Assumes nothing.
use mathlib.Core.Path.{ap, ◌∙◌}
use Prim.Native.Nat.{ℕ}
use Rattle.taking.specs.Steps.{points_of}
use Rattle.taking.specs.declared.Marks.{Marks}
use Rattle.board.specs.Inside.{clock_at}
use Rattle.board.specs.declared.Board.{Board}
use Rattle.board.proofs.Marking.{marks_are}
use Rattle.board.proofs.event.after.Goals as goal

-- a board of a clock and what is held beside it
board_of : ℕ → Marks → Board
board_of t m = record { clock = t; done = m.done; minutes = m.minutes; calls = m.calls }

pub returns : goal.returns
unfolding board_of
returns c =
    let a = c.args in
    ap (board_of a.e.minute) c.after-next.ensures ∙ marks_are a.e.minute a.n (points_of a.e) (clock_at a.e.minute a.board)
