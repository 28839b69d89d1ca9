-- What is answered of a board from links and windows, with no plan. No proofs are here.
pub mod ByWindows
