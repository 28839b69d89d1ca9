-- What a reader has to believe of a calendar. No proofs are here.
pub mod Calendars
pub mod Promises
pub mod Inside
