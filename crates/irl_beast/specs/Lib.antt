pub mod Counts
pub mod Passes
pub mod Places
pub mod Plans
pub mod Rooms
