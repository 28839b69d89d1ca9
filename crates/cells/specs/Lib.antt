-- A line by what is kept of its columns. No proofs are here.
pub mod Rows
