-- The proofs of text in a buffer. Other crates cite them.
pub mod Laying
pub mod Digits
