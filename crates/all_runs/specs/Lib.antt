-- What a reader has to believe of the worst of all projections' runs. No proofs are here.
pub mod WorstRun
pub mod Coded
