-- What a reader has to believe of what the programs print. No proofs are here.
pub mod Texts
pub mod Ends
