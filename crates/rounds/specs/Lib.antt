-- Rounds over the negative edges of a projection. A reader of the rules needs nothing of this crate. No proofs are here.
pub mod Ways
