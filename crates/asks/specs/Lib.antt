-- What a reader has to believe of the words of the program `desk`. No proofs are here.
pub mod Asks
pub mod Inside
