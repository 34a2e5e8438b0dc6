pub mod Answering
pub mod Chaining
pub mod Entering
pub mod Following
pub mod Numbers
pub mod Spreading
