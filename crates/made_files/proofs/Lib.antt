-- The proofs of plans that are made that belong to no one function.
mod OfPlans
