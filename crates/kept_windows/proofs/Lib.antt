-- The proofs of the windows that belong to no one function. `engine` cites `Answering` and `Naming`.
mod Opening
pub mod Naming
pub mod Answering
