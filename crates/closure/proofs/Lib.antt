-- The modules of proofs that belong to no one function. `Networks` has the mathematics, over any edges; `ARound` has worked cases.
pub mod ARound
pub mod Gathering
pub mod Networks
pub mod Making
pub mod Coding
pub mod Closes
