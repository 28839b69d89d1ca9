-- The proofs of the plan test that belong to no one function: the walk over the
-- projections, then what a yes means, then the test computed. Later crates cite `Yes`, `Single`, `Numbered` and `Executable`.
pub mod Walks
pub mod Counts
pub mod Rules
pub mod Plans
pub mod Edges
pub mod Sheets
pub mod Orders
pub mod Testing
pub mod Yes
pub mod Single
pub mod Numbered
pub mod Arcs
pub mod Meetings
pub mod Executable
pub mod EndsOnly
pub mod ARing
