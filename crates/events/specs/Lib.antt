-- What a reader has to believe of an event's bytes. No proofs are here.
pub mod Fields
pub mod Inside
