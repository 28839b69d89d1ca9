-- What a reader has to believe of listings: what packing a text answers and writes, and what is promised of it. No proofs are here.
pub mod Listing
pub mod Promised
pub mod Inside
