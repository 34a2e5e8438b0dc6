pub mod Falling
pub mod Steps
