-- What a reader has to believe of a line of text. No proofs are here.
pub mod Text
pub mod Inside
