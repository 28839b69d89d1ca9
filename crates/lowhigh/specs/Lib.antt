-- What a reader has to believe of what the records say of a point, on plain values. No proofs are here.
pub mod Rules
pub mod Inside
