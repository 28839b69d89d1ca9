-- The sheets of a lighter plan are those of the plan as it came in: `same_sheets`.
pub mod Sheets
