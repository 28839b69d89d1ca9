-- The modules of proofs that belong to no one function. Other crates cite the ones that are `pub`.
pub mod Bytes
pub mod Records
pub mod Entries
mod Putting
