-- What a reader has to believe of a listing's phrases: its lines, a line's words, and what a word says. No proofs are here.
pub mod Phrases
pub mod Inside
