-- The theorems about a run: `sheet_prints` of `Whole`, `offers_prints` of `WholeFull`, and of the loop itself `sheet_loops` and `offers_loops` of
-- `Looping`, and of `TurnLooping` where each turn is a call of `turn`. The others lead up to these.
mod Joining
mod Fronts
mod Days
pub mod Whole
mod Lists
mod Answers
pub mod WholeFull
pub mod Looping
pub mod TurnLooping
