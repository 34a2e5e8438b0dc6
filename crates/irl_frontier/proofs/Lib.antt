pub mod FateCounts
pub mod Passing
pub mod Tallies
