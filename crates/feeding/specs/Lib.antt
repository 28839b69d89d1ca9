-- What a reader has to believe of the machine that is fed. No proofs are here.
pub mod Parts
pub mod Ending
