-- `vee::sheet::put` meets its contract. Assumes nothing.
use Rattle.rows.specs.Filled.{link_put}
use Rattle.rows.proofs.sheet.put.Goals as goal

pub returns-then-kind-eq-LINK_ROW : goal.returns-then-kind-eq-LINK_ROW
returns-then-kind-eq-LINK_ROW c = link_put c.if-kind-eq-LINK_ROW.true c.offer_of-then-kind-eq-LINK_ROW.ensures c.offer_of-then-kind-eq-LINK_ROW-2.ensures
