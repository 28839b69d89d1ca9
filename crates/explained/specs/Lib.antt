-- What a reader has to believe of the explanation: `Explained`, with the drives of `Drives`. `Reasons` is what private functions' contracts
-- cite. No proofs are here.
pub mod Drives
pub mod Reasons
pub mod Explained
