-- The proofs of the calendar. Other crates cite the ones that are `pub`.
mod ACase
pub mod Lengths
pub mod Going
pub mod Writing
pub mod Lined
mod Starts
mod Firsts
pub mod Theorems
