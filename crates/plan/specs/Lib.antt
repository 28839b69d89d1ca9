-- What a reader has to believe of plans, in the order of document 01: the limits and the reply numbers, a plan, its
-- file, and what reading, checking and writing answer. No proofs are here.
pub mod Limits
pub mod APlan
pub mod PlanFile
pub mod ReplyNumbers
pub mod Haul
pub mod Held
pub mod Inside
