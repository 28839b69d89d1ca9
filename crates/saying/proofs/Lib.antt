-- The modules of proofs that belong to no one function. Other crates cite the ones that are `pub`.
pub mod Making
pub mod Listing
pub mod Boards
pub mod Gone
