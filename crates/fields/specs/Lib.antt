-- What a reader has to believe of quoting: a line of comma-separated text as its fields (document 02, §1). No proofs are here.
pub mod Quoting
pub mod Inside
