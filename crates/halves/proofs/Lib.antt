-- The proofs of what is answered of files that belong to no one function.
pub mod OfFile
