-- What a reader has to believe of records: the limits, the four kinds and what some records say of the points, and the
-- records that bytes stand for. No proofs are here.
pub mod Limits
pub mod Records
pub mod Bytes
pub mod Held
