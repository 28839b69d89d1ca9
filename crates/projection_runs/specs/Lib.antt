-- What a reader has to believe of the run of a projection. No proofs are here.
pub mod ProjectionRuns
pub mod RunPromises
pub mod Coded
