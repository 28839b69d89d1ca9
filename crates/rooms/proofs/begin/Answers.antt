-- `rooms::begin` meets its contract. Assumes nothing.
use Rattle.rooms.proofs.Beginning.{few_records, begins_taken, begins_refused}
use Rattle.rooms.proofs.begin.Goals as goal

pub fill-requires : goal.fill-requires
fill-requires c = few_records _ (rw c.check-found.ensures at c.if-found-eq-ACCEPTED.true)

pub returns-then-found-eq-ACCEPTED : goal.returns-then-found-eq-ACCEPTED
returns-then-found-eq-ACCEPTED c = begins_taken _ (c.well_formed.0.1.1.1.0.1.0.1) _ c.check-found.ensures _ c.links_of-links.ensures _ _ _ _ _ _ _ _ _ _ c.if-found-eq-ACCEPTED.true c.fill.ensures

pub returns-else-found-eq-ACCEPTED : goal.returns-else-found-eq-ACCEPTED
returns-else-found-eq-ACCEPTED c = begins_refused _ (c.well_formed.0.1.1.1.0.1.0.1) _ c.check-found.ensures _ c.links_of-links.ensures _ _ _ _ _ c.if-found-eq-ACCEPTED.false
