-- The limits of document 01, handed on from `records`. Assumes nothing.
pub use Rattle.records.specs.Limits.{most_points, most_links, most_ordinary, most_waits, records_with, most_records, farthest, record_bytes}
