-- What a reader has to believe of old files. No proofs are here.
pub mod OldFiles
