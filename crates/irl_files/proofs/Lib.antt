pub mod Names
pub mod Remembered
