-- The modules of proofs that belong to no one function. Other crates cite the ones that are `pub`: `answers` and `worst_stands`
-- of `Stands`; `is_worst` of `Largest`. What is proved of a run is in `projection_runs`. `ARefusal` and `Computed` have worked cases.
pub mod ARefusal
pub mod Computed
pub mod Largest
pub mod Stands
mod Answering
