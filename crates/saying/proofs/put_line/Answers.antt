-- `saying::put_line` meets its contract. Assumes nothing.
use Rattle.saying.proofs.Making.{made_line}
use Rattle.saying.proofs.put_line.Goals as goal

pub returns : goal.returns
returns c =
    let all = made_line _ _ c.args.at c.args.line (c.well_formed.1.1.0.1.1.1.0.1.0.1) c.requires c.behind.ensures.place c.behind.ensures.bytes in
    record {
      made = all.0;
      few = all.1;
    }
