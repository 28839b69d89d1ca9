-- The numbers that stand for a distance in a table, passed on from `tables`. Assumes nothing.
pub use Rattle.tables.specs.Tables.{bias, none}
