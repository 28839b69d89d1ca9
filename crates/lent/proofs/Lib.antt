-- The modules of proofs that belong to no one function. Other crates cite the ones that are `pub`.
mod Going
pub mod Theorems
