-- The proofs of the lists that belong to no one function. `kept` and `keeping` cite them.
pub mod Walking
pub mod Listing
