-- `kept::changes::remake` meets its contract. Assumes nothing.
use Rattle.kept.proofs.changes.remake.Goals as goal

pub returns : goal.returns
returns c = rw (c.running_of-run.ensures, c.place-v.ensures, c.row_at-row.ensures)
