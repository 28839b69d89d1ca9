-- What a reader has to believe of networks: the edges of a projection, walks, and what it is for a plan to pass. No proofs
-- are here.
pub mod Projection
pub mod Walks
pub mod Passing
