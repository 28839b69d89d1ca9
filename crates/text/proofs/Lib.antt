-- The modules of proofs that belong to no one function.
mod ACase
mod Spelling
