-- What a reader has to believe of the worst finishing minute. No proofs are here.
pub mod ProjectionRuns
pub mod WorstMinute
pub mod Promises
