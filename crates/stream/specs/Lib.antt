-- What a reader has to believe of the printing programs. No proofs are here.
pub mod Buffers
pub mod Sheets
pub mod Many
