-- What a reader has to believe of one record after others: the rules 4 to 11. No proofs are here.
pub mod OneRecord
pub mod Inside
