-- Lines behind lines in a buffer: the page hands on what `buffers` says of it. Assumes nothing.
pub use Rattle.buffers.specs.Behind.{end_of, appended}
