-- Whether a record is needed, as the code finds it: a reader of the rules can leave this page out. No proofs are here.
pub mod Spare
