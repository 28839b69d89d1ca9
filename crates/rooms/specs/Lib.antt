-- What the rooms of an engine hold when it begins. No proofs are here.
pub mod Filling
