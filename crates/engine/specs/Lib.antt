-- What the engine that keeps counts answers, whatever its rooms hold, and what it means that they agree with the plain engine. No proofs
-- are here.
pub mod Takes
pub mod Agreement
