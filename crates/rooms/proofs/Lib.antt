-- The proofs of the rooms that belong to no one function. `engine` cites them.
pub mod Beginning
mod Counting
