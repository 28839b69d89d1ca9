-- A plan laid out in rows, and what the functions on it ask and do. A reader of the rules can leave these pages out: of
-- them the contract of the plan test cites only `by`. No proofs are here.
pub mod Sheet
pub mod Filled
pub mod Layout
