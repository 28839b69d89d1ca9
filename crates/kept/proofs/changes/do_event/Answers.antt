-- `kept::changes::do_event` meets its contract. Assumes nothing.
use Rattle.kept.proofs.Steps.{event_by_lem}
use Rattle.kept.proofs.changes.do_event.Goals as goal

pub returns : goal.returns
returns c = let a = c.args in event_by_lem a.rows.now a.into.now a.out.now a.ends.now a.e _ a.kept.now _ _ c.sum-n.ensures c.do_set.ensures c.do_one.ensures
