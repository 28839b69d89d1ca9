-- What a reader has to believe of replies. No proofs are here.
pub mod Replies
pub mod Numbers
pub mod Inside
pub mod ByWindows
