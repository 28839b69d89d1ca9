-- What holds of boards, of windows and of events that are taken, as theorems on the rules of specs/, for the records of
-- an accepted plan. Each file below says what it assumes.
pub mod Each
pub mod Soundness
pub mod Links
pub mod Low
pub mod Marks
pub mod Taking
pub mod Why
