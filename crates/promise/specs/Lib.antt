-- What a reader has to believe of the promise, in the order of demand 3: the network of a plan and what it is to pass, runs
-- of events from the fresh board and what is promised of each board, and plays of the foreman and haulage; and document
-- 02, §9: good sheets, §8: links that start where another ends, and §7: which call came when. No proofs are here.
pub mod Nets
pub mod Runs
pub mod Plays
pub mod DemandThree
pub mod Answers
pub mod GoodSheets
pub mod Chains
pub mod Calls
