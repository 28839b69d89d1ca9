-- The modules of proofs that belong to no one function.
pub mod Fronts
mod Stages
pub mod AtOnce
