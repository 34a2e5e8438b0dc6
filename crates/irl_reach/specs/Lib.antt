pub mod Tapes
pub mod Reached
pub mod Along
pub mod Crawls
