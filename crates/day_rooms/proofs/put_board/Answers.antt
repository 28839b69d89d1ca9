-- `day_rooms::put_board` meets its contract. Assumes nothing.
use mathlib.Core.Path.{refl, ap, ◌∙◌}
use Rattle.hulls.specs.Rooms.{board_room}
use Rattle.day_rooms.proofs.put_board.Goals as goal

pub returns : goal.returns
returns c =
    record {
      answer = refl;
      room = c.board_room-numbers.ensures ∙ ap board_room c.board_in-board.ensures;
    }
