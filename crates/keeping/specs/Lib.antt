-- What a reader has to believe of the kept counts. No proofs are here.
pub mod Counts
pub mod Keeps
