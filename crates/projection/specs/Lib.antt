-- What is found of one projection. A reader of the rules needs `Judging`, which the contract of the plan test cites; the
-- other pages are what the functions' contracts cite. No proofs are here.
pub mod Judging
pub mod Findings
pub mod Once
