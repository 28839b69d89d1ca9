-- What a reader has to believe of what has happened, on plain values. No proofs are here.
pub mod History
