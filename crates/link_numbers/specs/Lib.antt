-- What crosses to a program in another language of a plan's links: a room of numbers. No proofs are here.
pub mod Rooms
