-- What the functions that make an event of a run ask and answer. A reader of the rules can leave these pages out. No proofs
-- are here.
pub mod Found
pub mod Events
