-- `engine::board_of` meets its contract. Assumes nothing.
use mathlib.Core.Path.{refl}
use Rattle.engine.proofs.board_of.Goals as goal

pub returns : goal.returns
returns c =
    record {
      clock = refl;
      done = refl;
      minutes = c.table-minutes.ensures;
      calls = c.table-calls.ensures;
    }
