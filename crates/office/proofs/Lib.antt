-- The modules of proofs that belong to no one function. Other crates cite the ones that are `pub`.
mod ACase
mod ALines
mod Lines
mod Filling
mod Rows
mod Judged
pub mod Fed
pub mod Growers
pub mod Sayable
