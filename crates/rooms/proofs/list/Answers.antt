-- `rooms::list` meets its contract. Assumes nothing.
use Rattle.rooms.proofs.list.Goals as goal

pub returns : goal.returns
returns c =
    record {
      into = c.build.ensures;
      out = c.build-2.ensures;
      ends = c.build-3.ensures;
      kept = c.begin_kept.ensures;
    }
