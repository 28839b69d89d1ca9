-- `turns::put_over` meets its contract. Assumes nothing.
use Rattle.turns.proofs.put_over.Goals as goal

pub returns : goal.returns
returns c = rw (c.plan_in.ensures, c.read_front-again.ensures) at c.put_last.ensures
