-- The proofs of one projection that belong to no one function. The plan test cites `Laws` and `Judges`.
pub mod Laws
pub mod Judges
pub mod OneRound
