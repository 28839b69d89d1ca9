-- What crosses to a program in another language: rooms of numbers. No proofs are here.
pub mod Rooms
