-- The theorems on old files.
pub mod OldFiles
