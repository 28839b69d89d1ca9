-- What a reader has to believe of the lines of the program `desk`. No proofs are here.
pub mod Answers
