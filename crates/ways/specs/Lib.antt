-- What a way is, on a plan laid out in rows: `Steps`. The other pages are what the functions' contracts cite. No proofs are here.
pub mod Steps
pub mod Toward
pub mod Round
