-- The proofs of the marks and of one event that belong to no one function.
mod Marking
mod Stepping
