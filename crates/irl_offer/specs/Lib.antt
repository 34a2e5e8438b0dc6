pub mod Buckets
pub mod Entries
pub mod Notes
pub mod Offering
pub mod Purses
pub mod Replies
pub mod Settings
pub mod Tuple
