-- `kept::changes::do_point` meets its contract. Assumes nothing.
use Rattle.kept.proofs.changes.do_point.Goals as goal

pub returns : goal.returns
returns c = rw (c.remake_all.ensures, c.mark.ensures)
