pub mod Appending
pub mod Form
pub mod Log
pub mod Noting
pub mod Reading
pub mod Spelling
pub mod Visiting
