-- The proofs of the rounds that belong to no one function. What judges a projection cites them.
pub mod Easing
pub mod Falling
pub mod Lowering
pub mod Rounding
