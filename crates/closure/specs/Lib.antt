-- What a reader has to believe of the plan that is made of a plan without watched steps: `Closing`. What is promised of it is said in
-- `Promises` of `closure_promises`. No proofs are here.
pub mod Closing
pub mod Inside
