-- The modules of proofs that belong to no one function. Other crates cite them.
pub mod Numbering
pub mod ByPlan
