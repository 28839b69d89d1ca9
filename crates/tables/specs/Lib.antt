-- Tables of distances, and what the functions on them ask and do. A reader of the rules can leave these pages out: the
-- contract of the plan test does not cite them. No proofs are here.
pub mod Tables
pub mod Distances
pub mod Entries
pub mod Steps
