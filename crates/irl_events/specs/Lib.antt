pub mod Courses
pub mod Events
pub mod Legal
pub mod Links
pub mod Queues
pub mod Seen
pub mod State
