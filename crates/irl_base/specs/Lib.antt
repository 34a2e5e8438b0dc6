pub mod Among
pub mod Blanks
pub mod Faults
pub mod Limits
pub mod Lists
