-- What a reader has to believe of a plan as a listing: its lines, and what is promised of them. No proofs are here.
pub mod Listed
