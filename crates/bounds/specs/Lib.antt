-- What a reader has to believe of bounds. No proofs are here.
pub mod Bounds
