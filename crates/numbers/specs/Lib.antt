-- What a reader has to believe of numbers: their bytes, their signs, and the form of choice that every page is written
-- with. No proofs are here.
pub mod Fits
pub mod Numbers
