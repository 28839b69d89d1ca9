-- The modules of proofs that belong to no one function. Other crates cite `projection_chosen` of `Decoding`. `ANumber` has a worked
-- case.
pub mod ANumber
pub mod Decoding
mod Choosing
