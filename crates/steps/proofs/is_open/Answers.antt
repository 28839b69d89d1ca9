-- `steps::is_open_lem` meets its contract. Assumes nothing.
use Rattle.steps.proofs.Nearest.{opened}
use Rattle.steps.proofs.is_open.Goals as goal

pub returns : goal.returns
returns c =
    let a = c.args in
    opened a.kept.now a.starts.now a.n a.q c.has-done.ensures
