-- What is said of a day at its end. No proofs are here.
pub mod Ended
