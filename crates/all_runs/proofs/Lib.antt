-- The modules of proofs that belong to no one function. Other crates cite `Searching`; `AWorse` has a worked case.
mod AWorse
pub mod Searching
mod Days
