-- What the kept numbers say of each point. No reader of the rules needs this. No proofs are here.
pub mod Answers
