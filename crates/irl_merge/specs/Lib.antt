pub mod Queries
pub mod Pairs
pub mod Sweeping
