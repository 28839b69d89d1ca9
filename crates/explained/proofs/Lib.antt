-- The modules of proofs that belong to no one function.
mod Driving
mod Reasoning
mod Explaining
pub mod Single
