-- `rounds::fall_of` meets its contract. Assumes nothing.
use Rattle.rounds.proofs.Falling.{of_ordinary, of_wait, of_link, of_other}
use Rattle.rounds.proofs.fall_of.Goals as goal

pub returns-then-row-eq-ORDINARY_ROW : goal.returns-then-row-eq-ORDINARY_ROW
returns-then-row-eq-ORDINARY_ROW c = of_ordinary _ _ c.if-row-eq-ORDINARY_ROW.true c.saturating_sub.ensures

pub returns-then-row-eq-WAIT_ROW : goal.returns-then-row-eq-WAIT_ROW
returns-then-row-eq-WAIT_ROW c = of_wait _ _ c.if-row-eq-ORDINARY_ROW.false c.if-row-eq-WAIT_ROW.true c.min.ensures

pub returns-then-row-eq-LINK_ROW : goal.returns-then-row-eq-LINK_ROW
returns-then-row-eq-LINK_ROW c = of_link _ _ c.if-row-eq-ORDINARY_ROW.false c.if-row-eq-WAIT_ROW.false c.if-row-eq-LINK_ROW.true

pub returns : goal.returns
returns c = of_other _ _ c.if-row-eq-ORDINARY_ROW.false c.if-row-eq-WAIT_ROW.false c.if-row-eq-LINK_ROW.false
