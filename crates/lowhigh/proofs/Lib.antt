-- The modules of proofs that belong to no one function.
pub mod Firsts
pub mod Windowing
pub mod Smallness
