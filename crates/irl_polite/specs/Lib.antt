pub mod Schedule
pub mod Answers
pub mod History
pub mod Inside
