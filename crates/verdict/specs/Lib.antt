-- What a reader has to believe of the verdict. No proofs are here.
pub mod Verdicts
pub mod Numbers
pub mod Inside
