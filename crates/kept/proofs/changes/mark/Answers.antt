-- `kept::changes::mark` meets its contract. Assumes nothing.
use Rattle.kept.proofs.Steps.{marked_by_lem}
use Rattle.kept.proofs.changes.mark.Goals as goal

pub returns : goal.returns
returns c = let a = c.args in marked_by_lem a.rows.now a.into.now a.out.now a.t a.n a.z _ a.kept.now _ _ c.with-done.ensures c.free_all.ensures c.bound_all.ensures
