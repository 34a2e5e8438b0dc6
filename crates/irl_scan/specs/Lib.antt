pub mod Bytes
pub mod Page
pub mod Links
pub mod Text
pub mod Reading
