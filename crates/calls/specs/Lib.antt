-- What a reader has to believe of the numbers of events, on plain values. No proofs are here.
pub mod Calls
pub mod Inside
