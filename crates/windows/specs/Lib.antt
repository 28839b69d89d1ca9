-- What the windows are, on plain values: no reader of the rules needs this. No proofs are here.
pub mod Inside
