-- What a reader has to believe of plan files stands in plan/specs. Here is what the functions behind `read` compute.
pub mod Inside
