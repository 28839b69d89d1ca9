-- What a reader has to believe of the lent list. No proofs are here.
pub mod Judgement
pub mod Inside
