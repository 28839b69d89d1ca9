-- What the engine answers over lent rooms, and that it is the plain engine's.
mod OfRooms
pub mod Agreeing
