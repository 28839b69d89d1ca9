-- The starred cases of document 01 as one table, and what it is for the table to hold. No proofs are here.
pub mod Starred
