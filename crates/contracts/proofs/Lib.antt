-- Each contract permits a single reply.
mod Rooms
mod Begins
mod Ponds
pub mod SingleReply
