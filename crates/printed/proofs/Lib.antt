-- The theorems about what is printed.
mod ACase
pub mod YesEnds
pub mod Records
