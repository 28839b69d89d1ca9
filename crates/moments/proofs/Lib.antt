-- The proofs of the lines of an event.
mod ACase
mod Parts
pub mod Lengths
