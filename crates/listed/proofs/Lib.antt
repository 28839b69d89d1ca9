-- The modules of proofs that belong to no one function. Other crates cite the ones that are `pub`.
mod Decimal
mod Typing
mod Rowing
pub mod PacksBack
