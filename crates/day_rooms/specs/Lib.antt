-- What the engine answers over rooms that are lent. No proofs are here.
pub mod Days
