-- `plan::empty` meets its contract. Assumes nothing.
use Rattle.plan.proofs.empty.Goals as goal

pub returns : goal.returns
returns c = rw c.blanks-records.ensures
