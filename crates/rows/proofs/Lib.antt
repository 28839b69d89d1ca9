-- The proofs of rows that belong to no one function. The plan test cites `Lays`.
pub mod Lays
pub mod Layouts
