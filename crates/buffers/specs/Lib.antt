-- Text that is put into a buffer. No proofs are here.
pub mod Inside
pub mod Behind
