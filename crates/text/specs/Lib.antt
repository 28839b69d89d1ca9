-- What a reader has to believe of the lines that the programs print. No proofs are here.
pub mod Words
pub mod Lines
