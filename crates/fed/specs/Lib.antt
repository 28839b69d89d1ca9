-- What a reader has to believe of a run of a printing program. No proofs are here.
pub mod Runs
pub mod Whole
pub mod Loops
pub mod TurnLoops
