-- What is promised of the sheets of a lighter plan. No proofs are here.
pub mod SameSheets
