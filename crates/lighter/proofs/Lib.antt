-- The modules of proofs that belong to no one function.
pub mod Skips
pub mod Accepts
pub mod Covering
pub mod Sparing
pub mod Copying
pub mod Going
pub mod Answering
pub mod Keeping
pub mod Standing
pub mod Theorems
