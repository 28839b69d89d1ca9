-- When what a board holds is sound. A reader of the rules needs nothing of this crate. No proofs are here.
pub mod ByLinks
