-- The proofs of the search that belong to no one function.
pub mod Searches
