-- The modules of proofs that belong to no one function. Other crates cite the ones that are `pub`.
mod Marking
pub mod Theorems
pub mod Opening
pub mod Linked
pub mod Replying
pub mod Taking
pub mod Streaming
pub mod ByPlan
pub mod Landed
