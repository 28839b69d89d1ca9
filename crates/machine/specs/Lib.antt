-- What a reader has to believe of the machine that the printing programs feed. No proofs are here.
pub mod Feeds
