-- Plans that are made of a plan file or of a text, and their files. No proofs are here.
pub mod Made
