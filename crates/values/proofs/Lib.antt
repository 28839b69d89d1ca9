-- The modules of proofs that belong to no one function. Other crates cite the ones that are `pub`.
mod ACase
pub mod Tests
pub mod Words
pub mod Tells
pub mod Digits
pub mod Says
pub mod Codes
pub mod Fit
