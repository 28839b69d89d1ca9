-- What a reader has to believe of a listing's lines: what their words say, as records and as bytes. No proofs are here.
pub mod Sayings
pub mod Inside
