-- An event on what a board holds. A reader of the rules needs nothing of this crate. No proofs are here.
pub mod Steps
