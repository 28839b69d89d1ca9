-- The modules of proofs that belong to no one function. `worst` cites `least_never` of `Nearest` and `TheEvent`.
pub mod Nearest
mod Starting
pub mod TheEvent
