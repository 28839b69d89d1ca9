-- The modules of proofs that belong to no one function. Other crates cite the ones that are `pub`.
mod AText
mod Wording
mod Going
pub mod Theorems
pub mod Typed
