-- What a reader has to believe of lengths: `Lengths`. `Meets` is what private functions' contracts cite. No proofs are here.
pub mod Lengths
pub mod Meets
