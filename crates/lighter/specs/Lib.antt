-- What a reader has to believe of the lighter plan: `Lighter`; and what is promised of it: `Promises`. `Inside` is what private
-- functions' contracts cite. No proofs are here.
pub mod Lighter
pub mod Inside
pub mod Promises
