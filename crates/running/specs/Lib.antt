-- What is answered from a table of links, with no plan. No proofs are here.
pub mod ByTable
