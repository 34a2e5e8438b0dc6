pub mod Failure
pub mod FileStore
pub mod Folder
pub mod Lost
