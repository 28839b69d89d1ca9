-- The modules of proofs that belong to no one function.
mod Decoding
mod Odd
mod Answers
mod Writing
