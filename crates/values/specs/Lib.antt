-- What a reader has to believe of a field's bytes: what they say as a kind word, a point, a number or a pond code (document 02,
-- §1). No proofs are here.
pub mod Ascii
pub mod Values
pub mod Codes
pub mod Inside
