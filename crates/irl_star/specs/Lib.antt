pub mod Budgets
pub mod Degrees
pub mod Ranks
