-- What the contract of each open function permits, and that it is a single reply. No proofs are here.
pub mod Rows
