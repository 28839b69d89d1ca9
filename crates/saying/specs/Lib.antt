-- What a reader has to believe of the lines that are made of events and boards. No proofs are here.
pub mod Makes
