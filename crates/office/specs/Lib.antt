-- What a reader has to believe of the growers' office's sheets, in the words and the order of document 02, §1: a text as its
-- lines, a line as its fields, a line's fields as a record, and what importing answers. No proofs are here.
pub mod Sheets
pub mod Saying
pub mod Promised
pub mod Inside
pub mod Feeding
