-- What is promised of the plan that is made of a plan without watched steps. No proofs are here.
pub mod Promises
