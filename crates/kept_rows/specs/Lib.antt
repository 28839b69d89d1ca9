-- What one row says and changes of what is kept of a plan at a board. A reader of the rules can leave this page out; `keeping` says what
-- the numbers are by the rules. No proofs are here.
pub mod Rows
