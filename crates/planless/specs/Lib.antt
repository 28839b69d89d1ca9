-- What is answered from links and windows, with no plan. No proofs are here.
pub mod ByWindows
