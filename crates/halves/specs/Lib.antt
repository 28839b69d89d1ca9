-- An answer as one number, and what is answered of a plan file. No proofs are here.
pub mod Answers
pub mod OfFile
