-- `ways::steps::step_of` meets its contract. Assumes nothing.
use mathlib.Core.Path.{refl}
use Rattle.ways.proofs.Laws.{step_ordinary, step_wait, step_back, step_there}
use Rattle.ways.proofs.steps.step_of.Goals as goal

pub returns-then-row-eq-ORDINARY_ROW : goal.returns-then-row-eq-ORDINARY_ROW
returns-then-row-eq-ORDINARY_ROW c = step_ordinary _ _ _ _ refl refl c.if-row-eq-ORDINARY_ROW.true

pub returns-then-row-eq-WAIT_ROW : goal.returns-then-row-eq-WAIT_ROW
returns-then-row-eq-WAIT_ROW c = step_wait _ _ _ _ refl refl c.if-row-eq-WAIT_ROW.true c.min.ensures

pub returns-then-back : goal.returns-then-back
returns-then-back c = step_back _ _ _ _ refl refl c.if-row-eq-ORDINARY_ROW.false c.if-row-eq-WAIT_ROW.false c.if-back.true

pub returns : goal.returns
returns c = step_there _ _ _ _ refl refl c.if-row-eq-ORDINARY_ROW.false c.if-row-eq-WAIT_ROW.false c.if-back.false
