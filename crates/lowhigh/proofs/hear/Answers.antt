-- `lowhigh::hear` meets its contract. Assumes nothing.
use Rattle.lowhigh.proofs.hear.Goals as goal

pub says-said-requires : goal.says-said-requires
says-said-requires c = c.requires.small

pub returns : goal.returns
returns c =
    let s = c.says-said.ensures in
    record {
      shuts = rw s;
      lows = rw (c.max.ensures, s);
      highs = rw (c.min.ensures, s);
    }
