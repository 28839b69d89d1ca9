-- What is known of a text from the growers' office as it comes, document 02, §1. No proofs are here.
pub mod Feeding
