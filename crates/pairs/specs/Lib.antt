-- The first bad pair of two tables. A reader of the rules needs nothing of this crate. No proofs are here.
pub mod Pairs
