-- What a reader has to believe of the pond codes of a plan's points. No proofs are here.
pub mod Ponds
