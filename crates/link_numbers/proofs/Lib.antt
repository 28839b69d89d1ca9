-- How rooms of numbers are filled and read, and that links come back from theirs.
pub mod Putting
pub mod Taking
pub mod Back
