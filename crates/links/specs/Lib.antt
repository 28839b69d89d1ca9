-- What a reader has to believe of an event's set of watched points, on plain values. No proofs are here.
pub mod Ending
pub mod Inside
