pub mod Pages
pub mod Outcomes
pub mod Found
pub mod Rest
pub mod Notes
