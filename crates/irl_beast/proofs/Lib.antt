pub mod Joining
pub mod LegalPasses
pub mod PlaceLemmas
pub mod Reserving
pub mod Rows
pub mod TextCounts
