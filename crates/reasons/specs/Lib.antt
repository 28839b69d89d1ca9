-- What a reader has to believe of the lines of `desk explain`. No proofs are here.
pub mod Reasons
