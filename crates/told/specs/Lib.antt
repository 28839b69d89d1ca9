-- Answers as numbers in a lent room. No proofs are here.
pub mod Told
