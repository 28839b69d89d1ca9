-- The theorems on what is kept.
pub mod Changes
pub mod Folding
pub mod Laying
pub mod Marking
pub mod Ending
pub mod Doing
pub mod Taken
pub mod Fresh
