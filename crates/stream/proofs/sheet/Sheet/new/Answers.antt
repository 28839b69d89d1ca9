-- `stream::sheet::Sheet::new` meets its contract. Assumes nothing.
use Rattle.stream.proofs.sheet.Sheet.new.Goals as goal

pub returns : goal.returns
returns c = rw (c.fresh-board.ensures, c.empty-plan.ensures)
