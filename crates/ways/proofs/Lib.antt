-- The modules of proofs that belong to no one function.
pub mod Laws
mod Reaching
mod Following
mod Rounding
