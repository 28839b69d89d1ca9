-- The table holds.
pub mod Computed
