-- What holds of dates, for later crates to cite, and what it rests on.
mod ACase
mod Sums
mod Passing
pub mod Days
pub mod Minutes
pub mod Years
pub mod Theorems
