pub mod Appending
pub mod Blob
pub mod Format
pub mod Growing
pub mod Synced
pub mod Visiting
