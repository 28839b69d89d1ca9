-- What is answered of a plan file. No proofs are here.
pub mod Files
