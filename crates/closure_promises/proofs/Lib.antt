-- `answers` of `Theorems` says what each answer of `close_of` is worth.
pub mod Accepting
pub mod OnePlan
pub mod Theorems
