-- The proofs of what is said of a day at its end that belong to no one function.
mod OfFiles
