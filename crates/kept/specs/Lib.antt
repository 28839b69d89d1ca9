-- What is kept of a plan at a board, as the rooms hold it. A reader of the rules can leave these pages out; `keeping` says what the
-- numbers are by the rules. No proofs are here.
pub mod Rooms
pub mod Begins
