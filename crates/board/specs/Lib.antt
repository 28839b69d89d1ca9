-- What a reader has to believe of boards, in the order of document 01. No proofs are here.
pub mod Calls
pub mod Boards
pub mod Windows
pub mod Stuck
pub mod Events
pub mod Why
pub mod Streams
pub mod Inside
pub mod InsideReplies
pub mod ByLinks
pub mod ByWindows
