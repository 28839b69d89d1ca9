-- The proofs of tables that belong to no one function. Later crates cite `Closing`, `Offers` and `Chains`.
pub mod Closing
pub mod Widths
pub mod Rows
pub mod Closings
pub mod Ranges
pub mod Chains
pub mod Strays
pub mod Begins
pub mod Offers
