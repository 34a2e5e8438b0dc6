pub mod Reading
pub mod SortedRun
pub mod Writing
