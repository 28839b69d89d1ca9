-- The theorems behind demand 3, for later crates to cite: first over any edges, then over the edges of a projection.
pub mod Laws
pub mod States
pub mod Deadlines
pub mod Changes
pub mod Search
pub mod Stuck
pub mod Plans
pub mod Projected
pub mod Durations
pub mod Safety
pub mod Plays
