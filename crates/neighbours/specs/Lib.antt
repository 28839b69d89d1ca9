-- The lists of a plan's records by a point. A reader of the rules can leave this page out. No proofs are here.
pub mod Lists
