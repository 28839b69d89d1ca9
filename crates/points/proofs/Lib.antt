-- The laws of sets of points, for later crates to cite, and what they rest on.
mod Bits
mod Lists
pub mod Laws
pub mod Walks
pub mod Shift
