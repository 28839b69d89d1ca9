-- The modules of proofs that belong to no one function. Other crates cite the ones that are `pub`.
pub mod Records
mod Sofar
pub mod Words
pub mod Entries
pub mod Limited
pub mod RoundTrip
pub mod Holding
pub mod Accepted
pub mod Pairing
mod Lookup
