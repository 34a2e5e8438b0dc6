pub mod Frontier
pub mod Plans
pub mod Tallies
