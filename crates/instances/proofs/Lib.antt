-- The theorems on plans as they are written, for a reader: `haul_passes`, `haul_finishes`, `day_good` and `day_given` of `Haul`; those of two
-- trucks in a chain and of a ring, in `TheTrucks`; `haul_worst` of `HaulWorst`.
pub mod Haul
pub mod TheTrucks
pub mod HaulWorst
