pub mod Degrees
pub mod Following
pub mod LinkLemmas
pub mod Placing
pub mod QueueLemmas
