-- What a reader has to believe of sets of points. No proofs are here.
pub mod Sets
