-- What a reader has to believe of the lines of an iCalendar event. No proofs are here.
pub mod Event
pub mod Inside
