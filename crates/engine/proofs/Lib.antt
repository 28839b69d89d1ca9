-- The proofs of the engine that belong to no one function. Other crates cite `Agreeing`.
mod Reading
pub mod Agreeing
