-- What a reader has to believe of the lines of an event and of a reply's list, from an engine's rooms. No proofs are here.
pub mod Places
