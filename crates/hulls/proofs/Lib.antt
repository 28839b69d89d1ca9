-- How a board's and a reply's rooms are filled, and the board of an engine's room.
mod Putting
mod Taking
pub mod Back
