-- `closure::far::is_far` meets its contract. Assumes nothing.
use Rattle.closure.proofs.Coding.{far_wide}
use Rattle.closure.proofs.far.is_far.Goals as goal

pub returns : goal.returns
returns c = far_wide c.args.v
