-- What a reader has to believe of dates: the calendar, how days are counted, what is promised of both, and known dates.
-- No proofs are here.
pub mod Gregorian
pub mod Counting
pub mod Promises
pub mod Known
