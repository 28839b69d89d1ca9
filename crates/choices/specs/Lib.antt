-- A projection by its number. A reader of the rules can leave this page out. No proofs are here.
pub mod Answered
pub mod Choices
