-- The proofs of what is kept that belong to no one function.
mod Sets
mod Steps
